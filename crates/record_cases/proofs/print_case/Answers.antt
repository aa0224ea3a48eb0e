use Rattle.record_cases.proofs.print_case.Goals as goal

pub print_form-requires : goal.print_form-requires
print_form-requires c = c.in-Ok-read_form.ensures.valid
