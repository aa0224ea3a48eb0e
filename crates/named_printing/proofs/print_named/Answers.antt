-- `named_printing::print_named` meets its contract: the tests in order, the form taken, its text. Assumes nothing.
use Rattle.std.proofs.Common.{rules}
use Rattle.refusal.proofs.Passing.{passed_up}
use Rattle.named_printing.proofs.Calls.{table_refused, names_refused, out_refused, form_refused, form-printable, form-printed}
use Rattle.named_printing.proofs.print_named.Goals as goal

pub returns-in_err-check_table : goal.returns-in_err-check_table
returns-in_err-check_table c = rw (passed_up _ _ c.from_residual.ensures.1) (table_refused _ _ _ _ _ c.in_err-check_table.ensures)

pub returns-then-not-good_names : goal.returns-then-not-good_names
returns-then-not-good_names c = names_refused _ _ _ _ _ c.in_ok-check_table.ensures _ c.good_names.ensures c.if-not-good_names.true

pub returns-then-out-lt-LINE_BYTES : goal.returns-then-out-lt-LINE_BYTES
returns-then-out-lt-LINE_BYTES c =
    out_refused _ _ _ _ _ c.in_ok-check_table.ensures _ c.good_names.ensures c.if-not-good_names.false c.if-out-lt-LINE_BYTES.true

pub returns-in_err-f : goal.returns-in_err-f
returns-in_err-f c =
    rw (passed_up _ _ c.from_residual-in_err-f.ensures.1)
    (form_refused _ _ _ _ _ c.in_ok-check_table.ensures _ c.good_names.ensures c.if-not-good_names.false c.if-out-lt-LINE_BYTES.false _ c.in_err-f.ensures)

pub print_form-requires : goal.print_form-requires
print_form-requires c = (
  form-printable _ _ _ _ _ c.in_ok-check_table.ensures _ c.good_names.ensures c.if-not-good_names.false c.if-out-lt-LINE_BYTES.false _ c.in_ok-f.ensures,
  c.if-out-lt-LINE_BYTES.false,
)

pub returns : goal.returns
returns c =
    form-printed _ _ _ _ _ c.in_ok-check_table.ensures _ c.good_names.ensures
    c.if-not-good_names.false c.if-out-lt-LINE_BYTES.false _ c.in_ok-f.ensures _ _ c.print_form.ensures
