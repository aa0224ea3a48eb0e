-- `evaluation::assignments::six_or_less` meets its contract. Assumes nothing.
use Rattle.evaluation.proofs.Assigned.{six-below, six-above}
use Rattle.evaluation.proofs.assignments.six_or_less.Goals as goal

pub returns-then-b-le6 : goal.returns-then-b-le6
returns-then-b-le6 c = six-below _ c.if-b-le6.true

pub returns : goal.returns
returns c = six-above _ c.if-b-le6.false
