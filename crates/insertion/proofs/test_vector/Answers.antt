use Rattle.insertion.proofs.Inserting.{not_vector, is-vector}
use Rattle.insertion.proofs.test_vector.Goals as goal

pub returns-then-kind-ne1 : goal.returns-then-kind-ne1
returns-then-kind-ne1 c = not_vector _ c.if-kind-ne1.true

pub returns : goal.returns
returns c = is-vector _ c.if-kind-ne1.false
