-- `polynomials::passes::least` meets its contract: d is the least digit of the keys passed. Assumes nothing.
use mathlib.Core.Path.{refl, ap, ◌∙◌}
use native.Mathlib.Omega.{arith}
use Rattle.polynomials.specs.Passes.{lesser_of}
use Rattle.polynomials.proofs.Turns.{least_more, least-ends}
use Rattle.polynomials.proofs.passes.least.Goals as goal

pub loop-i-init : goal.loop-i-init
loop-i-init c = (omega arith, refl)

pub key_at-requires : goal.key_at-requires
key_at-requires c = omega (arith, c.requires)

pub lowest_digit-requires : goal.lowest_digit-requires
lowest_digit-requires c = tt

pub lesser-d-requires : goal.lesser-d-requires
lesser-d-requires c = tt

pub loop-i-preserved : goal.loop-i-preserved
loop-i-preserved c = (
  omega arith,
  least_more _ _ c.requires _ _ _ c.loop-i-test.true
      c.loop-i.invariant.1 c.key_at.ensures _ (c.lesser-d.ensures ∙ ap (lesser_of _) c.lowest_digit.ensures),
)

pub returns : goal.returns
returns c = least-ends _ _ c.requires _ _ c.loop-i-test.false c.loop-i.invariant.1
