-- `printer_call::print_form` meets its contract: the line of the form, or that of the refusal. Assumes nothing.
use Rattle.printer_call.proofs.Answers.{form-printable, form-printed, refusal-printed}
use Rattle.printer_call.proofs.print_form.Goals as goal

pub print_line-requires : goal.print_line-requires
print_line-requires c = (form-printable _ _ _ c.in-Ok.ensures, c.requires)

pub returns-in-Ok : goal.returns-in-Ok
returns-in-Ok c = form-printed _ _ _ c.in-Ok.ensures _ _ _ c.print_line.ensures

pub returns-in-Err : goal.returns-in-Err
returns-in-Err c = refusal-printed _ _ _ c.in-Err.ensures _ _ _ _ c.number.ensures c.print_refusal.ensures
