-- `evaluation::vectors::cross` meets its contract. Assumes nothing.
use Rattle.evaluation.proofs.Arithmetic.{cross-asks_first, cross-asks-second, cross-asks_both, cross-gives}
use Rattle.evaluation.proofs.vectors.cross.Goals as goal

pub mul-requires : goal.mul-requires
mul-requires c = let w = c in cross-asks_first w.args.a w.args.b w.args.c w.args.d w.requires

pub mul-requires-2 : goal.mul-requires-2
mul-requires-2 c = let w = c in cross-asks-second w.args.a w.args.b w.args.c w.args.d w.requires

pub sub-requires : goal.sub-requires
sub-requires c =
    let w = c in
    cross-asks_both w.args.a w.args.b w.args.c w.args.d w.requires _ _ (record { sfits = c.mul.type_inv })
    (record { sfits = c.mul-2.type_inv }) c.mul.ensures c.mul-2.ensures

pub returns : goal.returns
returns c =
    let w = c in
    cross-gives w.args.a w.args.b w.args.c w.args.d w.requires _ _ (record { sfits = c.mul.type_inv })
    (record { sfits = c.mul-2.type_inv }) c.mul.ensures c.mul-2.ensures _ (record { sfits = c.sub.type_inv })
    c.sub.ensures
