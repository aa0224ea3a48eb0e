-- `open_log::open` meets its contract. Assumes nothing.
use Rattle.refusal.proofs.Passing.{passed_up}
use Rattle.open_log.proofs.OpenCalls.{table_short, open-bad, open_short, open-not_taken, open-writes}
use Rattle.open_log.proofs.open.Goals as goal

pub returns-in_err-check_table : goal.returns-in_err-check_table
returns-in_err-check_table c = rw (passed_up _ _ c.from_residual.ensures.1) (open-bad _ _ _ _ c.in_err-check_table.ensures)

pub returns-then-out-lt-STATE_BYTES : goal.returns-then-out-lt-STATE_BYTES
returns-then-out-lt-STATE_BYTES c = open_short _ _ _ _ c.in_ok-check_table.ensures c.if-out-lt-STATE_BYTES.true

pub returns-in_err-form : goal.returns-in_err-form
returns-in_err-form c = rw (passed_up _ _ c.from_residual-in_err-form.ensures.1)
    (open-not_taken _ _ _ _ c.in_ok-check_table.ensures c.if-out-lt-STATE_BYTES.false _ c.in_err-form.ensures)

pub table_of-requires : goal.table_of-requires
table_of-requires c = table_short _ c.args.form.now c.args.out.now _ c.in_ok-check_table.ensures

pub write_state-requires : goal.write_state-requires
write_state-requires c = (
  record { few = table_short _ c.args.form.now c.args.out.now _ c.in_ok-check_table.ensures; form = c.in_ok-form.ensures.valid },
  c.if-out-lt-STATE_BYTES.false,
)

pub returns : goal.returns
returns c =
    open-writes _ _ _ _ c.in_ok-check_table.ensures c.if-out-lt-STATE_BYTES.false _ c.in_ok-form.ensures _ c.table_of.ensures _ _ c.write_state.ensures
