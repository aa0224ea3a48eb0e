-- `polynomials::expansion::multiply` meets its contract: the products from j on are written. Assumes nothing.
use mathlib.Core.Path.{refl, ◌∙◌}
use native.Mathlib.Omega.{arith}
use native.Mathlib.Nat.{le_of_eq}
use Rattle.polynomials.proofs.Layers.{product_fits, sum_fits, spread-asks, multiply_first, multiply_back, multiply_last, count_fits, words}
use Rattle.polynomials.proofs.expansion.multiply.Goals as goal

pub count-m-requires : goal.count-m-requires
count-m-requires c = tt

pub loop-j-init : goal.loop-j-init
loop-j-init c = (refl, le_of_eq c.count-m.ensures, multiply_first _ _ _ _ c.requires _ c.count-m.ensures)

pub piece_at-requires : goal.piece_at-requires
piece_at-requires c = (omega (arith, c.loop-j.invariant.1), c.requires.small)

pub overflow_mul-j : goal.overflow_mul-j
overflow_mul-j c =
    omega (
      arith,
      product_fits _ _ _ _ c.requires _ c.loop-j-test.true c.loop-j.invariant.1 _
          c.loop-j.invariant.2,
      words c.args.work.now,
    )

pub overflow_add-start : goal.overflow_add-start
overflow_add-start c =
    omega (
      arith,
      sum_fits _ _ _ _ c.requires _ c.loop-j-test.true c.loop-j.invariant.1 _
          c.loop-j.invariant.2,
      words c.args.work.now,
    )

pub spread-requires : goal.spread-requires
spread-requires c =
    spread-asks _ _ _ _ c.requires _ c.loop-j-test.true c.loop-j.invariant.1 _
    c.loop-j.invariant.2 _ c.piece_at.ensures

pub loop-j-preserved : goal.loop-j-preserved
loop-j-preserved c = (
  c.spread.auto.work ∙ c.loop-j.invariant.0,
  omega (arith, c.loop-j.invariant.1),
  multiply_back _ _ _ _ c.requires _
      c.loop-j-test.true c.loop-j.invariant.1 _
      c.loop-j.invariant.2 _ c.piece_at.ensures _ c.spread.ensures,
)

pub overflow_mul-result : goal.overflow_mul-result
overflow_mul-result c = omega (arith, count_fits _ _ _ _ c.requires _ c.count-m.ensures, words c.args.work.now)

pub shape_of-work : goal.shape_of-work
shape_of-work c = c.loop-j.invariant.0

pub returns : goal.returns
returns c = multiply_last _ _ _ _ c.requires _ _ _ _ (omega arith) c.loop-j.invariant.2 c.count-m.ensures refl
