-- `evaluation::vectors::plus` meets its contract. Assumes nothing.
use Rattle.evaluation.proofs.Arithmetic.{plus-asks_x, plus-asks-y, plus-asks-z, plus-gives}
use Rattle.evaluation.proofs.vectors.plus.Goals as goal

pub add-x-requires : goal.add-x-requires
add-x-requires c = let w = c in plus-asks_x _ _ w.requires.0 w.requires.1

pub add-y-requires : goal.add-y-requires
add-y-requires c = let w = c in plus-asks-y _ _ w.requires.0 w.requires.1

pub add-z-requires : goal.add-z-requires
add-z-requires c =
    let w = c in
    plus-asks-z _ _ w.requires.0 w.requires.1

pub returns : goal.returns
returns c =
    let w = c in
    plus-gives _ _ w.requires.0 w.requires.1 _ _ _ (record { sfits = c.add-x.type_inv })
    (record { sfits = c.add-y.type_inv }) (record { sfits = c.add-z.type_inv })
    c.add-x.ensures c.add-y.ensures c.add-z.ensures
