-- `polynomials::variables::times` meets its contract: what is put together is `low` below the digits that are left. Assumes nothing.
use mathlib.Core.Path.{◌∙◌}
use native.Mathlib.Omega.{arith}
use Rattle.polynomials.proofs.Digits.{put-starts, put_more, put_none, put-ends, ends-256, ends-sum, ends-product, goes-product, goes-sum, goes-place}
use Rattle.polynomials.proofs.Digits.{put-goes, put_last, last_product, times_none, times_some, whole-small, nonzero}
use Rattle.polynomials.proofs.variables.times.Goals as goal

pub returns-then-d-eq0 : goal.returns-then-d-eq0
returns-then-d-eq0 c = times_none _ _ c.if-d-eq0.true

pub loop-i-init : goal.loop-i-init
loop-i-init c = put-starts _ _

pub overflow_mul-result : goal.overflow_mul-result
overflow_mul-result c =
    record {
      fits = ends-256 _ _ _ _ _ _ (nonzero c.if-d-eq0.false)
          (whole-small _ _ c.requires c.ranges.key.fits)
          (put_more _ _ _ _ _ _ c.loop-i-test.true c.loop-i.invariant) c.if-d-a.true;
    }

pub overflow_add-result : goal.overflow_add-result
overflow_add-result c =
    record {
      fits = ends-sum _ _ _ _ _ _ (nonzero c.if-d-eq0.false)
          (whole-small _ _ c.requires c.ranges.key.fits)
          (put_more _ _ _ _ _ _ c.loop-i-test.true c.loop-i.invariant) c.if-d-a.true;
    }

pub overflow_mul-result-then-d-a : goal.overflow_mul-result-then-d-a
overflow_mul-result-then-d-a c =
    record {
      fits = ends-product _ _ _ _ _ _ (nonzero c.if-d-eq0.false)
          (whole-small _ _ c.requires c.ranges.key.fits)
          (put_more _ _ _ _ _ _ c.loop-i-test.true c.loop-i.invariant) c.if-d-a.true;
    }

pub overflow_add-result-then-d-a : goal.overflow_add-result-then-d-a
overflow_add-result-then-d-a c =
    omega (
      arith,
      put-ends _ _ _ _ _ _ (nonzero c.if-d-eq0.false)
          (whole-small _ _ c.requires c.ranges.key.fits)
          (put_more _ _ _ _ _ _ c.loop-i-test.true c.loop-i.invariant) c.if-d-a.true,
      whole-small _ _ c.requires c.ranges.key.fits,
    )

pub returns-then-d-a : goal.returns-then-d-a
returns-then-d-a c =
    put-ends _ _ _ _ _ _ (nonzero c.if-d-eq0.false)
    (whole-small _ _ c.requires c.ranges.key.fits)
    (put_more _ _ _ _ _ _ c.loop-i-test.true c.loop-i.invariant) c.if-d-a.true
    ∙ times_some _ _ c.if-d-eq0.false

pub overflow_mul-low : goal.overflow_mul-low
overflow_mul-low c =
    record {
      fits = goes-product _ _ _ _ _ _ (nonzero c.if-d-eq0.false)
          (whole-small _ _ c.requires c.ranges.key.fits)
          (put_more _ _ _ _ _ _ c.loop-i-test.true c.loop-i.invariant) c.if-d-a.false;
    }

pub overflow_add-low : goal.overflow_add-low
overflow_add-low c =
    record {
      fits = goes-sum _ _ _ _ _ _ (nonzero c.if-d-eq0.false)
          (whole-small _ _ c.requires c.ranges.key.fits)
          (put_more _ _ _ _ _ _ c.loop-i-test.true c.loop-i.invariant) c.if-d-a.false;
    }

pub overflow_mul-place : goal.overflow_mul-place
overflow_mul-place c =
    record {
      fits = goes-place _ _ _ _ _ _ (nonzero c.if-d-eq0.false)
          (whole-small _ _ c.requires c.ranges.key.fits)
          (put_more _ _ _ _ _ _ c.loop-i-test.true c.loop-i.invariant) c.if-d-a.false;
    }

pub loop-i-preserved : goal.loop-i-preserved
loop-i-preserved c =
    put-goes _ _ _ _ _ _ (nonzero c.if-d-eq0.false)
    (whole-small _ _ c.requires c.ranges.key.fits)
    (put_more _ _ _ _ _ _ c.loop-i-test.true c.loop-i.invariant) c.if-d-a.false

pub overflow_mul-result-2 : goal.overflow_mul-result-2
overflow_mul-result-2 c =
    record {
      fits = last_product _ _ _ _ _ (whole-small _ _ c.requires c.ranges.key.fits)
          (put_none _ _ _ _ _ _ c.loop-i-test.false c.loop-i.invariant);
    }

pub overflow_add-result-2 : goal.overflow_add-result-2
overflow_add-result-2 c =
    omega (
      arith,
      put_last _ _ _ _ _ (whole-small _ _ c.requires c.ranges.key.fits)
          (put_none _ _ _ _ _ _ c.loop-i-test.false c.loop-i.invariant),
      whole-small _ _ c.requires c.ranges.key.fits,
    )

pub returns : goal.returns
returns c =
    put_last _ _ _ _ _ (whole-small _ _ c.requires c.ranges.key.fits)
    (put_none _ _ _ _ _ _ c.loop-i-test.false c.loop-i.invariant)
    ∙ times_some _ _ c.if-d-eq0.false
