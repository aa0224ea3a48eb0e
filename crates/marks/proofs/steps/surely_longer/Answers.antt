-- `marks::steps::surely_longer` meets its contract: the score is that of the rows passed. Assumes nothing.
use Rattle.std.proofs.Common.{rules}
use mathlib.Core.Path.{◌≡◌, refl, sym, ◌∙◌}
use Prim.Native.Nat.{◌≤◌}
use native.Mathlib.Omega.{arith}
use lib.Seq.{length-take-le}
use borrow.Author.Tests.{leb-true}
use lib.ListN.{length, length-set}
use Rattle.rule_table.proofs.Tied.{rows_few}
use Rattle.marks.proofs.RowsPassed.{Fitting, all_none, all_seen, all_more, all_enough, not_contained}
use Rattle.marks.proofs.steps.surely_longer.Goals.{After-rule_rows-rows, Start}
use Rattle.marks.proofs.steps.surely_longer.Goals as goal

six : (c : Start) → length c.args.s.letters ≡ 6
six c = search rules

factors : (c : Start) → c.args.s.m.factor_count ≤ length c.args.s.m.factors
factors c = let e : length c.args.s.m.factors ≡ 7 = search rules in omega (arith, e, c.requires.0.m.counted.few)

-- the step, its rows and its marks
fitting : (r : After-rule_rows-rows) → Fitting r.args.w r.row_count-n.result r.rule_rows-rows.result
    r.args.s
fitting r = let w = r.before.before in record {
  valid = w.requires.0;
  fits = w.requires.1;
  six = six w;
  few = factors w;
  marked = w.requires.2;
  count_is = r.row_count-n.ensures;
  rows_are = r.rule_rows-rows.ensures;
}

few : (r : After-rule_rows-rows) → r.row_count-n.result ≤ 7
few r = rows_few _ _ r.requires.0.rule r.row_count-n.ensures

pub row_count-n-requires : goal.row_count-n-requires
row_count-n-requires c = tt

pub rule_rows-rows-requires : goal.rule_rows-rows-requires
rule_rows-rows-requires c = c.requires.0.rule

pub loop-i-init : goal.loop-i-init
loop-i-init c = (omega arith, refl, omega arith, all_none)

pub returns-then-n-score : goal.returns-then-n-score
returns-then-n-score c = λ e. all_enough c.loop-i.invariant.3 (fitting (goal.at.returns-then-n-score c).After-rule_rows-rows) c.if-n-score.true

pub offset_bounds-rows-i : goal.offset_bounds-rows-i
offset_bounds-rows-i c = omega (arith, c.loop-i-test.true, few (goal.at.offset_bounds-rows-i c).After-rule_rows-rows)

pub bounds-rows-i : goal.bounds-rows-i
bounds-rows-i c = omega (arith, c.loop-i-test.true, few (goal.at.bounds-rows-i c).After-rule_rows-rows, c.rule_rows-rows.ensures.places)

pub product_mark-h-requires : goal.product_mark-h-requires
product_mark-h-requires c = let m = c.requires.2 in record { small = (m.few_factors, m.small_part); letters = (m.letters.places, m.letters.small) }

pub slice_bounds-hs-end : goal.slice_bounds-hs-end
slice_bounds-hs-end c = omega (arith, c.loop-i-test.true, few (goal.at.slice_bounds-hs-end c).After-rule_rows-rows, c.loop-i.invariant.1)

pub slice_bounds-contains-end : goal.slice_bounds-contains-end
slice_bounds-contains-end c =
    sym (length-take-le _ _ (omega (arith, c.loop-i-test.true, few (goal.at.slice_bounds-contains-end c).After-rule_rows-rows, c.loop-i.invariant.1)))

pub offset_bounds-hs-i : goal.offset_bounds-hs-i
offset_bounds-hs-i c = omega (
  arith,
  c.loop-i-test.true,
  few (goal.at.offset_bounds-hs-i c).After-rule_rows-rows,
)

pub bounds-hs-i : goal.bounds-hs-i
bounds-hs-i c = omega (
  arith,
  c.loop-i-test.true,
  few (goal.at.bounds-hs-i c).After-rule_rows-rows,
  c.loop-i.invariant.1,
)

pub loop-i-preserved-then-seen : goal.loop-i-preserved-then-seen
loop-i-preserved-then-seen c = let v = c.loop-i in
    let here = c.loop-i-test.true in (
      omega (arith, here),
      length-set v.hs _ _ ∙ v.invariant.1,
      omega (arith, v.invariant.2),
      all_seen v.invariant.3 v.invariant.1 here (omega (
        arith,
        few (goal.at.loop-i-preserved-then-seen c).After-rule_rows-rows,
      )) c.product_mark-h.ensures.0,
    )

pub row_score-score-requires : goal.row_score-score-requires
row_score-score-requires c = (
  c.product_mark-h.ensures.1,
  c.requires.3,
  c.requires.2.letters.places,
)

pub overflow_add-score : goal.overflow_add-score
overflow_add-score c = let v = c.loop-i in omega (
  arith,
  v.invariant.2,
  v.invariant.0,
  c.row_score-score.ensures.few,
  few (goal.at.overflow_add-score c).After-rule_rows-rows,
)

pub loop-i-preserved : goal.loop-i-preserved
loop-i-preserved c = let v = c.loop-i in
    let here = c.loop-i-test.true in (
      omega (arith, here),
      length-set v.hs _ _ ∙ v.invariant.1,
      omega (arith, v.invariant.2, c.row_score-score.ensures.few),
      all_more v.invariant.3 v.invariant.1 here (omega (
        arith,
        few (goal.at.loop-i-preserved c).After-rule_rows-rows,
      )) c.product_mark-h.ensures.0
          (not_contained _ _ (sym c.contains-seen.ensures.value ∙ c.if-seen.false)) c.row_score-score.ensures,
    )

pub returns : goal.returns
returns c = λ e. all_enough c.loop-i.invariant.3 (fitting (goal.at.returns c).After-rule_rows-rows) (leb-true _ _ e)
