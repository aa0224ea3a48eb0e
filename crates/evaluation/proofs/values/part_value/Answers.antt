-- `evaluation::values::part_value` meets its contract. Assumes nothing.
use Rattle.evaluation.proofs.Folds.{letter-small, part-nothing, part-letter, part-wedge}
use Rattle.evaluation.proofs.values.part_value.Goals as goal

pub wedge-requires : goal.wedge-requires
wedge-requires c =
    let w = c in
    (letter-small _ w.requires _ _ c.vector_of-in-Wedge.ensures, letter-small _ w.requires _ _ c.vector_of-in-Wedge-2.ensures)

pub returns-in-Nothing : goal.returns-in-Nothing
returns-in-Nothing c = part-nothing _ _ c.in-Nothing.is

pub returns-in-Letter : goal.returns-in-Letter
returns-in-Letter c = part-letter _ _ _ _ c.in-Letter.is c.vector_of.ensures

pub returns-in-Wedge : goal.returns-in-Wedge
returns-in-Wedge c =
    part-wedge _ _ _ _ _ _ _ c.in-Wedge.is c.vector_of-in-Wedge.ensures
    c.vector_of-in-Wedge-2.ensures c.wedge.ensures
