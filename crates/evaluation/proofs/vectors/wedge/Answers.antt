-- `evaluation::vectors::wedge` meets its contract. Assumes nothing.
use Rattle.evaluation.proofs.Arithmetic.{wedge-asks_x, wedge-asks-y, wedge-asks-z, wedge-gives}
use Rattle.evaluation.proofs.vectors.wedge.Goals as goal

pub cross-x-requires : goal.cross-x-requires
cross-x-requires c = let w = c in wedge-asks_x _ _ w.requires.0 w.requires.1

pub cross-y-requires : goal.cross-y-requires
cross-y-requires c =
    let w = c in
    wedge-asks-y _ _ w.requires.0 w.requires.1

pub cross-z-requires : goal.cross-z-requires
cross-z-requires c =
    let w = c in
    wedge-asks-z _ _ w.requires.0 w.requires.1

pub returns : goal.returns
returns c =
    let w = c in
    wedge-gives _ _ w.requires.0 w.requires.1 _ _ _
    (record { sfits = c.cross-x.type_inv })
    (record { sfits = c.cross-y.type_inv }) (record { sfits = c.cross-z.type_inv })
    c.cross-x.ensures
    c.cross-y.ensures c.cross-z.ensures
