-- `printer_call::table_form` meets its contract: the table's test, then the expression's form. Assumes nothing.
use Rattle.std.proofs.Common.{rules}
use Rattle.refusal.proofs.Passing.{passed_up}
use Rattle.printer_call.proofs.Answers.{table_refused, expression-decides}
use Rattle.printer_call.proofs.table_form.Goals as goal

pub returns-in_err-check_table : goal.returns-in_err-check_table
returns-in_err-check_table c = rw (passed_up _ _ c.from_residual.ensures.1) (table_refused _ _ _ c.in_err-check_table.ensures)

pub returns : goal.returns
returns c = expression-decides _ _ _ _ c.in_ok-check_table.ensures c.form_of.ensures
