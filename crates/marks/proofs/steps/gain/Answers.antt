-- `marks::steps::gain` meets its contract: the sum is what the products with the rows passed add to the term. Assumes nothing.
use Rattle.std.proofs.Common.{rules}
use mathlib.Core.Path.{◌≡◌, ap, sym, subst, ◌∙◌}
use mathlib.Core.Logic.{◌⊎◌}
use mathlib.Core.List.{[]}
use Prim.Native.Nat.{ℕ, ◌+◌, ◌%◌, ◌≤◌}
use native.Mathlib.Omega.{arith}
use mir.Syntax.{w64}
use mir.Val.{to_z}
use lib.IntN.{ℤ, nat_abs, ◌+ℤ◌}
use lib.ListN.{length}
use Rattle.integers.proofs.Machine.{back_is}
use Rattle.specification.specs.Terms.{times_term}
use Rattle.terms.specs.Abstraction.{part_of, term_of}
use Rattle.rule_table.specs.Table.{part_at, row_term}
use Rattle.rule_table.proofs.Tied.{rows_few}
use Rattle.rules.proofs.Taking.{row_fits}
use Rattle.marks.specs.Steps.{RowGained}
use Rattle.marks.proofs.RowsPassed.{Fitting, row_here, row_is, mark-here}
use Rattle.marks.proofs.Gains.{Gained, gained_none, gained_more, gained_apart, gained_all}
use Rattle.marks.proofs.steps.gain.Goals.{After-rule_rows-rows, Start, else-product_mark-h, then-product_mark-h}
use Rattle.marks.proofs.steps.gain.Goals as goal

six : (c : Start) → length c.args.s.letters ≡ 6
six c = search rules

factors : (c : Start) → c.args.s.m.factor_count ≤ length c.args.s.m.factors
factors c = let e : length c.args.s.m.factors ≡ 7 = search rules in omega (arith, e, c.requires.1.m.counted.few)

-- the step, its rows and its marks
fitting : (r : After-rule_rows-rows) → Fitting r.args.w r.row_count-n.result
    r.rule_rows-rows.result r.args.s
fitting r = let w = r.before.before.before.before in record {
  valid = w.requires.1;
  fits = w.requires.2;
  six = six w;
  few = factors w;
  marked = w.requires.3;
  count_is = r.row_count-n.ensures;
  rows_are = r.rule_rows-rows.ensures;
}

few : (r : After-rule_rows-rows) → r.row_count-n.result ≤ 7
few r = rows_few _ _ r.requires.1.rule r.row_count-n.ensures

pub row_count-n-requires : goal.row_count-n-requires
row_count-n-requires c = tt

pub rule_rows-rows-requires : goal.rule_rows-rows-requires
rule_rows-rows-requires c = c.requires.1.rule

pub term_mark-h-requires : goal.term_mark-h-requires
term_mark-h-requires c = c.requires.0

pub loop-i-init : goal.loop-i-init
loop-i-init c = (omega arith, gained_none _ _)

pub offset_bounds-rows-i : goal.offset_bounds-rows-i
offset_bounds-rows-i c = omega (arith, c.loop-i-test.true, few (goal.at.offset_bounds-rows-i c).After-rule_rows-rows)

pub bounds-rows-i : goal.bounds-rows-i
bounds-rows-i c = omega (arith, c.loop-i-test.true, few (goal.at.bounds-rows-i c).After-rule_rows-rows, c.rule_rows-rows.ensures.places)

pub product_mark-requires : goal.product_mark-requires
product_mark-requires c = let m = c.requires.3 in record { small = (m.few_factors, m.small_part); letters = (m.letters.places, m.letters.small) }

pub row_gain-requires : goal.row_gain-requires
row_gain-requires c = let r = c in
    let w = c in
    let f = fitting (goal.at.row_gain-requires c).After-rule_rows-rows in
    let inside = c.loop-i-test.true in
    let v = row_fits w.args.s w.requires.1 (six (goal.at.row_gain-requires c).Start) w.requires.2 _ (row_here f inside) (factors (goal.at.row_gain-requires c).Start) in record {
      counts = (w.requires.0, v.0.0, v.0.1);
      part = subst (λ (k : ℕ). (part_of w.args.s.m.part ≡ []) ⊎ (part_at w.args.s.letters (k % 64) ≡ []))
          (sym (row_is f inside)) v.1;
    }

pub add-g-requires : goal.add-g-requires
add-g-requires c = let v = c.loop-i in
    omega (
      arith,
      v.invariant.1.light,
      v.invariant.0,
      c.row_gain.ensures.light,
      ap nat_abs (back_is {z = c.row_gain.result} (record {
        sfits =
            c.row_gain.type_inv;
      })),
      few (goal.at.add-g-requires c).After-rule_rows-rows,
    )

pub loop-i-preserved : goal.loop-i-preserved
loop-i-preserved c = let v = c.loop-i in
    let r = c in
    let s = r.args.s in
    let t = r.args.t in
    let f = fitting (goal.at.loop-i-preserved c).After-rule_rows-rows in
    let inside = c.loop-i-test.true in (
      omega (arith, inside),
      elim c.if-product_mark-h.branch [
        | then-product_mark-h w ↦ gained_more t s v.i (row_here f inside) _ v.invariant.1 _ _
            (subst (λ (k : ℕ). RowGained (term_of t) (times_term (term_of s.m) (row_term s.letters k)) w.row_gain.result) (row_is f inside) w.row_gain.ensures)
            (ap (to_z w64) w.g-is-bits ∙ back_is (record { sfits = w.add-g.type_inv }) ∙ w.add-g.ensures ∙ ap (λ (z : ℤ). to_z w64 v.g-bits +ℤ z) (back_is (record {
              sfits =
                  w.row_gain.type_inv;
            })))
        | else-product_mark-h w ↦ subst (λ (g : ℕ). Gained t s (v.i + 1) (to_z w64 g)) (sym w.g-is-bits)
            (gained_apart t s v.i (row_here f inside) _ v.invariant.1 _ _ (mark-here f inside _ c.product_mark.ensures.0)
            c.term_mark-h.ensures.0 w.if-product_mark-h.false)
      ],
    )

pub returns : goal.returns
returns c = let v = c.loop-i in
    let r = c in
    let w = c in
    gained_all _ w.args.s _ _ w.requires.1 (six (goal.at.returns c).Start) (omega (arith, c.loop-i-test.false, v.invariant.0, r.row_count-n.ensures)) v.invariant.1
