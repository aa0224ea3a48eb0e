-- `insertion::with_inserted` meets its contract: both forms, the letter and the kind, then working. Assumes nothing.
use Rattle.std.proofs.Common.{rules}
use Rattle.refusal.proofs.Passing.{passed_up}
use Rattle.insertion.proofs.Inserting.{forms_refused, replaced_refused, second-vector, working_decides}
use Rattle.insertion.proofs.with_inserted.Goals as goal

pub returns-in_err-f : goal.returns-in_err-f
returns-in_err-f c = rw (passed_up _ _ c.from_residual.ensures.1) (forms_refused _ _ _ _ _ c.in_err-f.ensures)

pub returns-in_err-test_replaced : goal.returns-in_err-test_replaced
returns-in_err-test_replaced c = rw (passed_up _ _ c.from_residual-in_err-test_replaced.ensures.1) (replaced_refused _ _ _ _ _ _ c.in_ok-f.ensures _ c.in_err-test_replaced.ensures)

pub replace-requires : goal.replace-requires
replace-requires c = let b = c.in_ok-f.ensures in (b.first, b.second, second-vector _ _ _ _ _ _ b _ c.in_ok-test_replaced.ensures)

pub returns : goal.returns
returns c = working_decides _ _ _ _ _ _ c.in_ok-f.ensures _ c.in_ok-test_replaced.ensures _ c.replace.ensures
