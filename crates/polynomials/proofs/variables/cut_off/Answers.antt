-- `polynomials::variables::cut_off` meets its contract: so much is cut, and the digits `k` are left. Assumes nothing.
use native.Mathlib.Omega.{arith}
use Rattle.polynomials.proofs.Digits.{cut-starts, cut_none, cut_same, cut-other, cut_last, cut-kept, count_few, product-most, place-most, counted_as}
use Rattle.polynomials.proofs.variables.cut_off.Goals as goal
use Rattle.polynomials.proofs.variables.cut_off.Goals.{then-a-ne0+else-a-d, else-a-ne0}

pub loop-k-init : goal.loop-k-init
loop-k-init c = cut-starts _ _ c.ranges.key.fits

pub overflow_mul-result : goal.overflow_mul-result
overflow_mul-result c = omega (arith, product-most _ _ _ _ _ c.loop-k.invariant, c.ranges.key.fits)

pub returns-then-a-d : goal.returns-then-a-d
returns-then-a-d c = cut-other _ _ _ _ _ c.loop-k.invariant c.loop-k-test.true c.if-a-ne0.true c.if-a-d.true

pub overflow_add-e : goal.overflow_add-e
overflow_add-e c = omega (arith, count_few _ _ _ _ _ c.loop-k.invariant)

pub overflow_mul-place : goal.overflow_mul-place
overflow_mul-place c = omega (arith, place-most _ _ _ _ _ c.loop-k.invariant c.loop-k-test.true, c.ranges.key.fits)

pub loop-k-preserved : goal.loop-k-preserved
loop-k-preserved c =
    elim c.if-a-ne0.branch [
      | then-a-ne0+else-a-d w ↦ counted_as w.e-is (cut_same _ _ _ _ _ c.loop-k.invariant c.loop-k-test.true w.if-a-ne0.true w.if-a-d.false)
      | else-a-ne0 w ↦ counted_as w.e-is (cut_none _ _ _ _ _ c.loop-k.invariant c.loop-k-test.true w.if-a-ne0.false)
    ]

pub overflow_add-result : goal.overflow_add-result
overflow_add-result c = omega (arith, count_few _ _ _ _ _ c.loop-k.invariant)

pub returns-then-k-d : goal.returns-then-k-d
returns-then-k-d c = cut_last _ _ _ _ _ c.loop-k.invariant c.loop-k-test.false c.requires c.if-k-d.true

pub overflow_mul-result-2 : goal.overflow_mul-result-2
overflow_mul-result-2 c = omega (arith, product-most _ _ _ _ _ c.loop-k.invariant, c.ranges.key.fits)

pub returns : goal.returns
returns c = cut-kept _ _ _ _ _ c.loop-k.invariant c.loop-k-test.false c.if-k-d.false
