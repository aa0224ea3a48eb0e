-- `polynomials::expansion::times_factors` meets its contract: the summands after k factors stand from `start` on. Assumes nothing.
use Rattle.std.proofs.Common.{rules}
use mathlib.Core.Path.{◌≡◌, refl, ◌∙◌}
use Prim.Native.Nat.{◌≤◌}
use native.Mathlib.Omega.{arith}
use lib.ListN.{length}
use Rattle.polynomials.proofs.Expansions.{turn-starts, number_small, turn_asks, turn_on, turn-ends}
use Rattle.polynomials.proofs.expansion.times_factors.Goals.{Start}
use Rattle.polynomials.proofs.expansion.times_factors.Goals as goal

-- there are seven places
places : (c : Start) → length c.args.t.factors ≡ 7
places c = search rules

-- so that the factors are among them
few : (c : Start) → c.args.t.factor_count ≤ length c.args.t.factors
few c = omega (arith, places c, c.requires.valid.counted.few)

pub loop-k-init : goal.loop-k-init
loop-k-init c = (refl, turn-starts _ _ _ c.requires)

pub offset_bounds-t-k : goal.offset_bounds-t-k
offset_bounds-t-k c = omega (arith, c.requires.valid.counted.few)

pub bounds-t-k : goal.bounds-t-k
bounds-t-k c = omega (arith, c.requires.valid.counted.few)

pub block_of-requires : goal.block_of-requires
block_of-requires c =
    number_small _ _ _ c.requires (few (goal.at.block_of-requires c).Start) _ c.loop-k-test.true _ _
    c.loop-k.invariant.1

pub multiply-n-requires : goal.multiply-n-requires
multiply-n-requires c =
    turn_asks _ _ _ c.requires (few (goal.at.multiply-n-requires c).Start) _
    c.loop-k-test.true _ _ c.loop-k.invariant.1 _ c.block_of.ensures

pub loop-k-preserved : goal.loop-k-preserved
loop-k-preserved c = (
  c.multiply-n.auto.work ∙ c.loop-k.invariant.0,
  turn_on _ _ _ c.requires
      (few (goal.at.loop-k-preserved c).Start) _ c.loop-k-test.true _ _
      c.loop-k.invariant.1 _ c.block_of.ensures _ _
      c.multiply-n.ensures,
)

pub shape_of-work : goal.shape_of-work
shape_of-work c = c.loop-k.invariant.0

pub returns : goal.returns
returns c = turn-ends _ _ _ c.requires (few (goal.at.returns c).Start) _ c.loop-k-test.false _ _ c.loop-k.invariant.1
