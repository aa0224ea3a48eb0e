use Rattle.shorten_call.proofs.Calls.{answer_refused, answer-printed}
use Rattle.shorten_call.proofs.print_shortening.Goals as goal

pub returns-then-out-lt-LINES_BYTES : goal.returns-then-out-lt-LINES_BYTES
returns-then-out-lt-LINES_BYTES c = answer_refused _ _ c.if-out-lt-LINES_BYTES.true

pub returns : goal.returns
returns c = answer-printed _ _ _ _ c.if-out-lt-LINES_BYTES.false c.print_input.ensures
