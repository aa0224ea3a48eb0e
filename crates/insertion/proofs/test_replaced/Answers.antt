-- `insertion::test_replaced` meets its contract: the letter, then the kind. Assumes nothing.
use Rattle.std.proofs.Common.{rules}
use Rattle.refusal.proofs.Passing.{passed_up}
use Rattle.insertion.proofs.Inserting.{letter_refused, kind-decides}
use Rattle.insertion.proofs.test_replaced.Goals as goal

pub returns-in_err-test_letter : goal.returns-in_err-test_letter
returns-in_err-test_letter c = rw (passed_up _ _ c.from_residual.ensures.1) (letter_refused _ _ _ _ c.in_err-test_letter.ensures)

pub returns : goal.returns
returns c = kind-decides _ _ _ _ c.in_ok-test_letter.ensures c.test_vector.ensures
