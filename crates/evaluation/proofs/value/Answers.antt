-- `evaluation::value` meets its contract. Assumes nothing.
use mathlib.Core.Path.{sym, ◌∙◌}
use Rattle.refusal.proofs.Passing.{passed_up}
use Rattle.evaluation.proofs.Answering.{good_small, table_short, table_refused, form_refused, assignment_refused, value_given}
use Rattle.evaluation.proofs.value.Goals as goal

pub returns-in_err-check_table : goal.returns-in_err-check_table
returns-in_err-check_table c = rw (passed_up _ _ c.from_residual.ensures.1) (table_refused _ _ _ _ c.in_err-check_table.ensures)

pub returns-in_err-f : goal.returns-in_err-f
returns-in_err-f c = rw (passed_up _ _ c.from_residual-in_err-f.ensures.1) (form_refused _ _ _ _ c.in_ok-check_table.ensures _ c.in_err-f.ensures.is)

pub good_assignment-requires : goal.good_assignment-requires
good_assignment-requires c = table_short _ c.args.form.now c.args.assignment.now _ c.in_ok-check_table.ensures

pub returns-then-not-good_assignment : goal.returns-then-not-good_assignment
returns-then-not-good_assignment c =
    assignment_refused _ _ _ _ c.in_ok-check_table.ensures _ c.in_ok-f.ensures.is
    (sym c.good_assignment.ensures ∙ c.if-not-good_assignment.true)

pub form_value-requires : goal.form_value-requires
form_value-requires c = (
  good_small _ _ (sym c.good_assignment.ensures ∙ c.if-not-good_assignment.false),
  c.in_ok-f.ensures.valid,
)

pub returns : goal.returns
returns c =
    value_given _ _ _ _ c.in_ok-check_table.ensures _ c.in_ok-f.ensures.is
    (sym c.good_assignment.ensures ∙ c.if-not-good_assignment.false) _ c.form_value.ensures
