-- `evaluation::values::factors_value` meets its contract: v is the product of the factors from i on. Assumes nothing.
use Rattle.std.proofs.Common.{rules}
use mathlib.Core.Path.{◌≡◌}
use Prim.Native.Nat.{◌≤◌}
use native.Mathlib.Nat.{le_refl}
use native.Mathlib.Omega.{arith}
use lib.ListN.{length}
use Rattle.terms.proofs.Arrays.{all-at}
use Rattle.evaluation.proofs.Folds.{no-factors, factor_more, factor-asks, factors_of_lem, all_factors}
use Rattle.evaluation.proofs.values.factors_value.Goals.{Start}
use Rattle.evaluation.proofs.values.factors_value.Goals as goal

-- there are seven places
places : (c : Start) → length c.args.t.factors ≡ 7
places c = search rules

-- so that the factors are among them
few : (c : Start) → c.args.t.factor_count ≤ length c.args.t.factors
few c = omega (arith, places c, c.requires.1.counted.few)

pub loop-i-init : goal.loop-i-init
loop-i-init c = let w = c in (le_refl _, no-factors _ _ _ (few (goal.at.loop-i-init c).Start))

pub offset_bounds-t-i : goal.offset_bounds-t-i
offset_bounds-t-i c = omega (arith, c.loop-i.invariant.0, c.requires.1.counted.few)

pub bounds-t-i : goal.bounds-t-i
bounds-t-i c = omega (arith, c.loop-i.invariant.0, c.requires.1.counted.few)

pub factor_value-requires : goal.factor_value-requires
factor_value-requires c =
    let w = c in
    let v = c.loop-i in
    (w.requires.0, all-at _ _ _ _ _ (few (goal.at.factor_value-requires c).Start) (omega (arith, v.invariant.0, c.loop-i-test.true)) w.requires.1.counted.small)

pub mul-v-requires : goal.mul-v-requires
mul-v-requires c =
    let w = c in
    let v = c.loop-i in
    let o = factors_of_lem _ w.requires.1 in
    factor-asks _ _ _ (few (goal.at.mul-v-requires c).Start) _ _ _ c.loop-i-test.true v.invariant.0 v.invariant.1 (record { sfits = c.factor_value.type_inv })
    c.factor_value.ensures w.requires.0 o.lengths o.vectors o.scalars

pub loop-i-preserved : goal.loop-i-preserved
loop-i-preserved c =
    let w = c in
    let v = c.loop-i in (
      omega (arith, v.invariant.0),
      factor_more _ _ _ (few (goal.at.loop-i-preserved c).Start) _ _ _ c.loop-i-test.true v.invariant.0 v.invariant.1
          (record { sfits = c.factor_value.type_inv }) c.factor_value.ensures _ (record { sfits = c.mul-v.type_inv }) c.mul-v.ensures,
    )

pub returns : goal.returns
returns c = all_factors _ _ _ _ c.loop-i-test.false c.loop-i.invariant.1
