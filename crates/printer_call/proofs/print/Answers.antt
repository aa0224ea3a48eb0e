use Rattle.printer_call.proofs.Answers.{answer_refused, answer-printed}
use Rattle.printer_call.proofs.print.Goals as goal

pub returns-then-out-lt-LINE_BYTES : goal.returns-then-out-lt-LINE_BYTES
returns-then-out-lt-LINE_BYTES c = answer_refused _ _ c.if-out-lt-LINE_BYTES.true

pub returns : goal.returns
returns c = answer-printed _ _ _ _ c.if-out-lt-LINE_BYTES.false c.print_input.ensures
