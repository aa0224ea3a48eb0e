-- `insertion::insert` meets its contract: the table, the room, the content. Assumes nothing.
use Rattle.std.proofs.Common.{rules}
use Rattle.refusal.proofs.Passing.{passed_up}
use native.Mathlib.Omega.{arith}
use Rattle.specification.specs.Insertion.{insert_call}
use Rattle.forms.proofs.FormCalls.{table_refused, short_refused, content_refused, form_written}
use Rattle.insertion.proofs.insert.Goals as goal

pub returns-in_err-check_table : goal.returns-in_err-check_table
unfolding insert_call
returns-in_err-check_table c = rw (passed_up _ _ c.from_residual.ensures.1) (table_refused _ _ _ _ c.in_err-check_table.ensures)

pub returns-then-out-lt-FORM_BYTES : goal.returns-then-out-lt-FORM_BYTES
unfolding insert_call
returns-then-out-lt-FORM_BYTES c = short_refused _ _ _ _ c.in_ok-check_table.ensures c.if-out-lt-FORM_BYTES.true

pub returns-in_err-f : goal.returns-in_err-f
unfolding insert_call
returns-in_err-f c = rw (passed_up _ _ c.from_residual-in_err-f.ensures.1) (content_refused _ _ _ _ c.in_ok-check_table.ensures c.if-out-lt-FORM_BYTES.false _ c.in_err-f.ensures)

pub write_form-requires : goal.write_form-requires
write_form-requires c = let v = c.in_ok-f.ensures.valid in (v, omega (arith, v.few, c.if-out-lt-FORM_BYTES.false))

pub returns : goal.returns
unfolding insert_call
returns c = form_written _ _ _ _ c.in_ok-check_table.ensures c.if-out-lt-FORM_BYTES.false _ c.in_ok-f.ensures _ _ c.write_form.ensures
