-- `evaluation::values::term_value` meets its contract. Assumes nothing.
use Rattle.evaluation.proofs.Folds.{scalar-asks, term_asks, term-gives}
use Rattle.evaluation.proofs.values.term_value.Goals as goal

pub mul-k-requires : goal.mul-k-requires
mul-k-requires c =
    let w = c in
    scalar-asks _ w.requires.0 _ w.requires.1 _ (record { sfits = c.struct_told-1.given.0.1 }) (record { sfits = c.factors_value.type_inv })
    c.factors_value.ensures

pub times-requires : goal.times-requires
times-requires c =
    let w = c in
    term_asks _ w.requires.0 _ w.requires.1 _ (record { sfits = c.struct_told-1.given.0.1 })
    (record { sfits = c.factors_value.type_inv }) c.factors_value.ensures _ _ (record { sfits = c.mul-k.type_inv })
    c.mul-k.ensures c.part_value.ensures

pub returns : goal.returns
returns c =
    let w = c in
    term-gives _ w.requires.0 _ w.requires.1 _ (record { sfits = c.struct_told-1.given.0.1 })
    (record { sfits = c.factors_value.type_inv }) c.factors_value.ensures _ _
    (record { sfits = c.mul-k.type_inv }) c.mul-k.ensures c.part_value.ensures _ c.times.ensures
