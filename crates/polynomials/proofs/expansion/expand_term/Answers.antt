-- `polynomials::expansion::expand_term` meets its contract. Assumes nothing.
use mathlib.Core.Path.{◌∙◌}
use native.Mathlib.Omega.{arith}
use Rattle.integers.proofs.Machine.{back_is}
use Rattle.terms.specs.Abstraction.{term_of}
use Rattle.polynomials.proofs.Expansions.{first_asks, factors-ask, part-asks, expand-ends}
use Rattle.polynomials.proofs.expansion.expand_term.Goals as goal

pub mul-requires : goal.mul-requires
mul-requires c = first_asks _ _ _ _ _ c.requires _ _ (back_is (record { sfits = c.type_inv.t.0.1 })) (back_is c.ranges.sign)

pub put-requires : goal.put-requires
put-requires c = omega (arith, c.requires.room)

pub times_factors-n-requires : goal.times_factors-n-requires
times_factors-n-requires c =
    factors-ask _ _ _ _ _ c.requires _ _ _ _ _
    (back_is (record { sfits = c.type_inv.t.0.1 }))
    (back_is c.ranges.sign) c.mul.ensures
    (back_is (record { sfits = c.mul.type_inv })) c.put.ensures

pub multiply-requires : goal.multiply-requires
unfolding term_of
multiply-requires c =
    part-asks _ _ _ _ _ c.requires _ _ _ _ _
    (back_is (record { sfits = c.struct_told-1.given.0.1 }))
    (back_is c.ranges.sign)
    c.mul.ensures
    (back_is (record { sfits = c.mul.type_inv }))
    c.put.ensures _ _ c.times_factors-n.ensures _
    c.part_block.ensures

pub shape_of-work : goal.shape_of-work
shape_of-work c =
    c.multiply.auto.work
    ∙ c.times_factors-n.auto.work
    ∙ c.put.auto.work

pub returns : goal.returns
unfolding term_of
returns c =
    expand-ends _ _ _ _ _ c.requires _ _ _ _
    _
    (back_is
    (record { sfits = c.struct_told-1.given.0.1 }))
    (back_is c.ranges.sign)
    c.mul.ensures
    (back_is (record { sfits = c.mul.type_inv }))
    c.put.ensures _ _
    c.times_factors-n.ensures _ c.part_block.ensures _ _
    c.multiply.ensures
