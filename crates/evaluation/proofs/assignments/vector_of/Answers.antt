-- `evaluation::assignments::vector_of` meets its contract. Assumes nothing.
use Rattle.evaluation.proofs.Assigned.{vector_is}
use Rattle.evaluation.proofs.assignments.vector_of.Goals as goal

pub returns : goal.returns
returns c =
    vector_is _ _ _ _ _ (record { sfits = c.component-x.type_inv }) (record { sfits = c.component-y.type_inv })
    (record { sfits = c.component-z.type_inv }) c.component-x.ensures c.component-y.ensures c.component-z.ensures
