-- `open_log::close` meets its contract. Assumes nothing.
use Rattle.std.proofs.Common.{rules}
use mathlib.Core.Path.{◌≡◌, sym}
use native.Mathlib.Omega.{arith}
use lib.ListN.{length}
use lib.Seq.{length-take-le}
use Rattle.refusal.proofs.Passing.{passed_up}
use Rattle.open_log.specs.States.{StateValid}
use Rattle.open_log.proofs.OpenCalls.{close-unread, close-not_taken, close-differs, close-accepts}
use Rattle.open_log.proofs.close.Goals.{In_ok-state}
use Rattle.open_log.proofs.close.Goals as goal

-- the state that was read is valid
valid : (c : In_ok-state) → StateValid c.in_ok-state.state
valid c = c.in_ok-state.ensures.valid

-- and there are 24 places for letters
long : (c : In_ok-state) → length c.in_ok-state.state.table ≡ 24
long c = search rules

pub returns-in_err-state : goal.returns-in_err-state
returns-in_err-state c = rw (passed_up _ _ c.from_residual.ensures.1) (close-unread _ _ _ c.in_err-state.ensures)

pub slice_bounds-read_form-end : goal.slice_bounds-read_form-end
slice_bounds-read_form-end c = sym (length-take-le _ _ (omega (arith, long (goal.at.slice_bounds-read_form-end c).In_ok-state, (valid (goal.at.slice_bounds-read_form-end c).In_ok-state).few)))

pub returns-in_err-last : goal.returns-in_err-last
returns-in_err-last c = rw (passed_up _ _ c.from_residual-in_err-last.ensures.1) (close-not_taken _ _ _ c.in_ok-state.ensures _ c.in_err-last.ensures)

pub is_reached-requires : goal.is_reached-requires
is_reached-requires c = (c.in_ok-last.ensures.valid, c.in_ok-state.ensures.valid.form)

pub returns-then-not-is_reached : goal.returns-then-not-is_reached
returns-then-not-is_reached c = close-differs _ _ _ c.in_ok-state.ensures _ c.in_ok-last.ensures _ c.is_reached.ensures c.if-not-is_reached.true

pub returns : goal.returns
returns c = close-accepts _ _ _ c.in_ok-state.ensures _ c.in_ok-last.ensures _ c.is_reached.ensures c.if-not-is_reached.false
