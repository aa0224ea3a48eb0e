-- `reduction::form_of` meets its contract: the length, the tree read, the bytes left over, and the form by value. Assumes nothing.
use Rattle.std.proofs.Common.{rules}
use Rattle.refusal.proofs.Passing.{passed_up}
use native.Mathlib.Omega.{arith}
use Rattle.reduction.proofs.Calls.{too_long, not_read, left_over_lem, worked_form, read_whole}
use Rattle.reduction.proofs.form_of.Goals as goal

pub returns-then-s-gt512 : goal.returns-then-s-gt512
returns-then-s-gt512 c = too_long _ _ c.if-s-gt512.true

pub read_tree-requires : goal.read_tree-requires
read_tree-requires c = (omega arith, omega arith)

pub returns-in_err-t : goal.returns-in_err-t
returns-in_err-t c = rw (passed_up _ _ c.from_residual.ensures.1) (not_read _ _ _ _ c.if-s-gt512.false _ c.in_err-t.ensures)

pub returns-then-t-s : goal.returns-then-t-s
returns-then-t-s c = left_over_lem _ _ _ _ c.if-s-gt512.false _ c.in_ok-t.ensures c.if-t-s.true

pub outcome-requires : goal.outcome-requires
outcome-requires c = worked_form _ _ _ _ c.if-s-gt512.false _ c.in_ok-t.ensures

pub returns : goal.returns
returns c = read_whole _ _ _ _ c.if-s-gt512.false _ c.in_ok-t.ensures c.if-t-s.false _ c.outcome.ensures
