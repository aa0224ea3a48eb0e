-- `polynomials::expansion::spread` meets its contract: i summands are written. Assumes nothing.
use mathlib.Core.Path.{refl, ◌∙◌}
use native.Mathlib.Omega.{arith}
use Rattle.polynomials.proofs.Bytes.{within}
use Rattle.polynomials.proofs.Layers.{spread-starts, spread-from, spread_to, spread-fits, spread_on, spread-ends}
use Rattle.polynomials.proofs.expansion.spread.Goals as goal

pub loop-i-init : goal.loop-i-init
loop-i-init c = (refl, omega arith, spread-starts _ _ _ _ _ c.requires)

pub overflow_add-from : goal.overflow_add-from
overflow_add-from c =
    omega (
      arith,
      spread-from _ _ _ _ _ c.requires _ _ c.loop-i.invariant.2 c.loop-i-test.true,
      within _ _ (spread-from _ _ _ _ _ c.requires _ _ c.loop-i.invariant.2 c.loop-i-test.true),
    )

pub overflow_add-to : goal.overflow_add-to
overflow_add-to c =
    omega (
      arith,
      spread_to _ _ _ _ _ c.requires _ _ c.loop-i.invariant.2 c.loop-i-test.true,
      within _ _ (spread_to _ _ _ _ _ c.requires _ _ c.loop-i.invariant.2 c.loop-i-test.true),
    )

pub put_product-requires : goal.put_product-requires
put_product-requires c = (
  spread-from _ _ _ _ _ c.requires _ _ c.loop-i.invariant.2 c.loop-i-test.true,
  spread_to _ _ _ _ _ c.requires _ _ c.loop-i.invariant.2 c.loop-i-test.true,
  spread-fits _ _ _ _ _ c.requires _ _ c.loop-i.invariant.2 c.loop-i-test.true,
)

pub loop-i-preserved : goal.loop-i-preserved
loop-i-preserved c = (
  c.put_product.auto.work ∙ c.loop-i.invariant.0,
  omega arith,
  spread_on _ _ _ _ _ c.requires _ _ c.loop-i.invariant.2
      c.loop-i-test.true _ c.put_product.ensures,
)

pub shape_of-work : goal.shape_of-work
shape_of-work c = c.loop-i.invariant.0

pub returns : goal.returns
returns c = spread-ends _ _ _ _ _ c.requires _ _ c.loop-i-test.false c.loop-i.invariant.1 c.loop-i.invariant.2
