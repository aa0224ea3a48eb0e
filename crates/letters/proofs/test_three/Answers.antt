-- `letters::test_three` meets its contract. Assumes nothing.
use Rattle.std.proofs.Common.{rules}
use Rattle.letters.proofs.LetterTests.{letters-stop, letters_on}
use Rattle.refusal.proofs.Passing.{passed_up}
use Rattle.letters.proofs.test_three.Goals as goal

pub returns-in_err-test_letter : goal.returns-in_err-test_letter
returns-in_err-test_letter c = rw (passed_up _ _ c.from_residual.ensures.1) (letters-stop _ _ _ _ _ c.in_err-test_letter.ensures)

pub returns : goal.returns
returns c = letters_on _ _ _ _ _ c.in_ok-test_letter.ensures c.test_two.ensures
