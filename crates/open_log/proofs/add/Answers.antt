-- `open_log::add` meets its contract. Assumes nothing.
use Rattle.refusal.proofs.Passing.{passed_up}
use Rattle.open_log.proofs.OpenCalls.{add-unread, add_short, add-fails, add-writes}
use Rattle.open_log.proofs.add.Goals as goal

pub returns-in_err-state : goal.returns-in_err-state
returns-in_err-state c = rw (passed_up _ _ c.from_residual.ensures.1) (add-unread _ _ _ _ c.in_err-state.ensures)

pub returns-then-out-lt-STATE_BYTES : goal.returns-then-out-lt-STATE_BYTES
returns-then-out-lt-STATE_BYTES c = add_short _ _ _ _ c.in_ok-state.ensures c.if-out-lt-STATE_BYTES.true

pub add_step-a-requires : goal.add_step-a-requires
add_step-a-requires c = c.in_ok-state.ensures.valid

pub returns-in_err-a : goal.returns-in_err-a
returns-in_err-a c = rw (passed_up _ _ c.from_residual-in_err-a.ensures.1)
    (add-fails _ _ _ _ c.in_ok-state.ensures c.if-out-lt-STATE_BYTES.false _ c.add_step-a.ensures _ c.in_err-a.was)

pub write_state-requires : goal.write_state-requires
write_state-requires c = (c.add_step-a.ensures.valid, c.if-out-lt-STATE_BYTES.false)

pub returns : goal.returns
returns c = add-writes _ _ _ _ c.in_ok-state.ensures c.if-out-lt-STATE_BYTES.false _ c.add_step-a.ensures _ c.in_ok-a.was _ _ c.write_state.ensures
