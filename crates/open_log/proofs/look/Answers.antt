-- `open_log::look` meets its contract. Assumes nothing.
use native.Mathlib.Omega.{arith}
use Rattle.refusal.proofs.Passing.{passed_up}
use Rattle.open_log.proofs.OpenCalls.{look-unread, look-short, look-writes}
use Rattle.open_log.proofs.look.Goals as goal

pub returns-in_err-state : goal.returns-in_err-state
returns-in_err-state c = rw (passed_up _ _ c.from_residual.ensures.1) (look-unread _ _ _ c.in_err-state.ensures)

pub returns-then-out-lt-FORM_BYTES : goal.returns-then-out-lt-FORM_BYTES
returns-then-out-lt-FORM_BYTES c = look-short _ _ _ c.in_ok-state.ensures c.if-out-lt-FORM_BYTES.true

pub write_form-requires : goal.write_form-requires
write_form-requires c = let v = c.in_ok-state.ensures.valid.form in (v, omega (arith, v.few, c.if-out-lt-FORM_BYTES.false))

pub returns : goal.returns
returns c = look-writes _ _ _ c.in_ok-state.ensures c.if-out-lt-FORM_BYTES.false _ _ c.write_form.ensures
