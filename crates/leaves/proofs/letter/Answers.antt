-- `leaves::letter` meets its contract by the kind. Assumes nothing.
use Rattle.std.proofs.Common.{rules}
use Rattle.terms.specs.Abstraction.{part_of}
use Rattle.leaves.proofs.Single.{scalar_as, scalar-shape, letter-scalar, vector-shape, letter-vector}
use Rattle.leaves.proofs.letter.Goals as goal

pub only_factor-requires : goal.only_factor-requires
only_factor-requires c = c.scalar_number.ensures.small

pub alone-requires : goal.alone-requires
alone-requires c =
    let m = scalar_as _ _ _ c.scalar_number.ensures.letters c.only_factor.ensures in (
      m.counted,
      scalar-shape _ _ m,
      c.requires.0,
      c.requires.1,
    )

pub returns-then-kind-eq0 : goal.returns-then-kind-eq0
returns-then-kind-eq0 c =
    letter-scalar _ _
    (scalar_as _ _ _ c.scalar_number.ensures.letters c.only_factor.ensures)
    _ _ _ _ c.if-kind-eq0.true c.alone.ensures

pub alone-requires-2 : goal.alone-requires-2
unfolding part_of
alone-requires-2 c =
    let m = c.bare.ensures in (
      m.counted,
      vector-shape _ _ m,
      c.requires.0,
      c.requires.1,
    )

pub returns : goal.returns
unfolding part_of
returns c =
    letter-vector _ _ c.bare.ensures _ _ _ _ c.if-kind-eq0.false
    c.alone-2.ensures
