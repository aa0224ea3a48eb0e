-- `evaluation::vectors::dot` meets its contract. Assumes nothing.
use Rattle.evaluation.proofs.Arithmetic.{dot-asks_x, dot-asks-y, dot-asks-z, dot-asks_two, dot-asks-three, dot-gives}
use Rattle.evaluation.proofs.vectors.dot.Goals as goal

pub mul-x-requires : goal.mul-x-requires
mul-x-requires c = let w = c in dot-asks_x _ _ w.requires.0 w.requires.1

pub mul-y-requires : goal.mul-y-requires
mul-y-requires c = let w = c in dot-asks-y _ _ w.requires.0 w.requires.1

pub mul-z-requires : goal.mul-z-requires
mul-z-requires c =
    let w = c in
    dot-asks-z _ _ w.requires.0 w.requires.1

pub add-requires : goal.add-requires
add-requires c =
    let w = c in
    dot-asks_two _ _ w.requires.0 w.requires.1 _ _ (record { sfits = c.mul-x.type_inv })
    (record { sfits = c.mul-y.type_inv }) c.mul-x.ensures
    c.mul-y.ensures

pub add-requires-2 : goal.add-requires-2
add-requires-2 c =
    let w = c in
    dot-asks-three _ _ w.requires.0 w.requires.1 _ _ (record { sfits = c.mul-x.type_inv })
    (record { sfits = c.mul-y.type_inv }) c.mul-x.ensures
    c.mul-y.ensures _ _ (record { sfits = c.mul-z.type_inv }) (record { sfits = c.add.type_inv })
    c.mul-z.ensures c.add.ensures

pub returns : goal.returns
returns c =
    let w = c in
    dot-gives _ _ w.requires.0 w.requires.1 _ _ (record { sfits = c.mul-x.type_inv })
    (record { sfits = c.mul-y.type_inv })
    c.mul-x.ensures c.mul-y.ensures _ _
    (record { sfits = c.mul-z.type_inv }) (record { sfits = c.add.type_inv }) c.mul-z.ensures
    c.add.ensures _ (record { sfits = c.add-2.type_inv }) c.add-2.ensures
