-- `formula_call::read_formula` meets its contract: the tests in order, a refused text, the record. Assumes nothing.
use native.Mathlib.Omega.{arith}
use Rattle.std.proofs.Common.{rules}
use Rattle.refusal.proofs.Passing.{passed_up}
use Rattle.formula_call.proofs.Calls.{names-named, table_refused, names_refused, out_refused, columns_refused, text_refused, text_written}
use Rattle.formula_call.proofs.read_formula.Goals as goal

pub returns-in_err-check_table : goal.returns-in_err-check_table
returns-in_err-check_table c =
    rw (passed_up _ _ c.from_residual.ensures.1)
    (table_refused c.args.table.now c.args.names.now c.args.s.now c.args.out.now c.args.columns.now _ c.in_err-check_table.ensures)

pub returns-then-not-good_names : goal.returns-then-not-good_names
returns-then-not-good_names c =
    names_refused c.args.table.now c.args.names.now c.args.s.now c.args.out.now c.args.columns.now
    c.in_ok-check_table.ensures _ c.good_names.ensures c.if-not-good_names.true

pub returns-then-out-lt-FORM_BYTES : goal.returns-then-out-lt-FORM_BYTES
returns-then-out-lt-FORM_BYTES c =
    out_refused c.args.table.now c.args.names.now c.args.s.now c.args.out.now c.args.columns.now
    c.in_ok-check_table.ensures _ c.good_names.ensures c.if-not-good_names.false c.if-out-lt-FORM_BYTES.true

pub returns-then-columns-lt1 : goal.returns-then-columns-lt1
returns-then-columns-lt1 c =
    columns_refused c.args.table.now c.args.names.now c.args.s.now c.args.out.now c.args.columns.now
    c.in_ok-check_table.ensures _ c.good_names.ensures c.if-not-good_names.false c.if-columns-lt1.true

pub form_of_text-requires : goal.form_of_text-requires
form_of_text-requires c = names-named _ _ _ c.in_ok-check_table.ensures c.good_names.ensures c.if-not-good_names.false

pub returns-in-Err : goal.returns-in-Err
returns-in-Err c =
    text_refused c.args.table.now c.args.names.now c.args.s.now c.args.out.now c.args.columns.now
    c.in_ok-check_table.ensures _ c.good_names.ensures c.if-not-good_names.false c.if-out-lt-FORM_BYTES.false c.if-columns-lt1.false
    _ c.in-Err.ensures

pub write_form-requires : goal.write_form-requires
write_form-requires c = let v = c.in-Ok.ensures.valid in (v, omega (arith, v.few, c.if-out-lt-FORM_BYTES.false))

pub returns-in-Ok : goal.returns-in-Ok
returns-in-Ok c =
    text_written c.args.table.now c.args.names.now c.args.s.now c.args.out.now c.args.columns.now
    c.in_ok-check_table.ensures _ c.good_names.ensures c.if-not-good_names.false c.if-out-lt-FORM_BYTES.false c.if-columns-lt1.false
    _ _ _ c.in-Ok.ensures c.write_form.ensures
