-- `leaves::constant` meets its contract: refused, 0, or one term. Assumes nothing.
use Rattle.std.proofs.Common.{rules}
use borrow.Author.Tests.{not-true, not-false}
use Rattle.terms.specs.Abstraction.{part_of}
use Rattle.leaves.proofs.Single.{constant-back, constant-nine, constant_zero, one_shape, constant_one}
use Rattle.leaves.proofs.constant.Goals as goal

pub returns-then-not-within : goal.returns-then-not-within
returns-then-not-within c =
    constant-back _ _ _ _ c.ranges.k
    (constant-nine _ _ _ _ c.within.ensures c.if-not-within.true)

pub returns-then-is_zero : goal.returns-then-is_zero
returns-then-is_zero c =
    constant-back _ _ _ _ c.ranges.k
    (constant_zero _ _ _ c.within.ensures c.if-not-within.false c.is_zero.ensures _ _
    c.if-is_zero.true)

pub alone-requires : goal.alone-requires
unfolding part_of
alone-requires c =
    let m = c.bare.ensures in (
      m.counted,
      one_shape _ _ _ c.within.ensures
          c.if-not-within.false c.is_zero.ensures
          c.if-is_zero.false _ m,
      c.requires.0,
      c.requires.1,
    )

pub returns : goal.returns
unfolding part_of
returns c =
    constant-back _ _ _ _ c.ranges.k
    (constant_one _ _ _ c.within.ensures
    c.if-not-within.false
    c.is_zero.ensures c.if-is_zero.false _
    c.bare.ensures _ _ _ c.alone.ensures)
