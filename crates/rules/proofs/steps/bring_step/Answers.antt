-- `rules::steps::bring_step` meets its contract: the products of M with the rule's first rows are brought in. Assumes nothing.
use Rattle.std.proofs.Common.{rules}
use mathlib.Core.Path.{◌≡◌, refl, subst, sym}
use mathlib.Core.Logic.{◌⊎◌}
use mathlib.Core.List.{[]}
use Prim.Native.Nat.{ℕ, ◌+◌, ◌*◌, ◌-◌, ◌%◌, ◌≤◌, ◌<◌}
use native.Mathlib.Nat.{mul-le-mul_right}
use native.Mathlib.Omega.{arith}
use lib.IntN.{nat_abs}
use lib.ListN.{length, get_or}
use Rattle.integers.proofs.Machine.{back, fits_back}
use Rattle.theory.specs.Shape.Terms.{in_limit}
use Rattle.terms.specs.Abstraction.{part_of, term_of}
use Rattle.gathering.specs.Bringing.{coef_bound}
use Rattle.rows.proofs.RowForms.{light_more}
use Rattle.rule_table.specs.Table.{rule_rows, first_row, row_count, part_at, TimesRow}
use Rattle.rule_table.proofs.Tied.{rows_few, row_given}
use Rattle.rules.proofs.Taking.{Turned, product-light, turned_none, turned_more, turned_all, row_fits}
use Rattle.rules.proofs.steps.bring_step.Goals.{After-times_row-t, In-loop-i, Start}
use Rattle.rules.proofs.steps.bring_step.Goals as goal

six : (c : Start) → length c.args.s.letters ≡ 6
six c = search rules

factors : (c : Start) → c.args.s.m.factor_count ≤ length c.args.s.m.factors
factors c = let e : length c.args.s.m.factors ≡ 7 = search rules in omega (arith, e, c.requires.step.0.m.counted.few)

few : (c : In-loop-i) → c.row_count-count.result ≤ 7
few c = rows_few _ _ c.requires.step.0.rule c.row_count-count.ensures

here : (c : In-loop-i) → c.loop-i.i < row_count c.args.s.rule
here c = omega (arith, c.loop-i-test.true, c.row_count-count.ensures)

-- the row that is read is the rule's
row : (c : In-loop-i) → get_or c.rule_rows-table.result c.loop-i.i 0 ≡ get_or rule_rows (first_row c.args.s.rule + c.loop-i.i) 0
row c = row_given _ _ _ c.rule_rows-table.ensures (here c)

-- M times it
product : (c : After-times_row-t) → TimesRow c.args.s.m
    c.args.s.letters (get_or rule_rows (first_row c.args.s.rule + c.loop-i.i) 0) c.times_row-t.result
product c = subst (λ (k : ℕ). TimesRow c.args.s.m
    c.args.s.letters k c.times_row-t.result) (row c.before) c.times_row-t.ensures

pub row_count-count-requires : goal.row_count-count-requires
row_count-count-requires c = tt

pub rule_rows-table-requires : goal.rule_rows-table-requires
rule_rows-table-requires c = c.requires.step.0.rule

pub loop-i-init : goal.loop-i-init
loop-i-init c = let w = c in
    (omega arith, turned_none w.args.s w.requires.step.0 (six (goal.at.loop-i-init c).Start) _ _ _ w.requires.run.0, refl, refl)

pub offset_bounds-table-i : goal.offset_bounds-table-i
offset_bounds-table-i c = omega (arith, rows_few _ _ c.requires.step.0.rule c.row_count-count.ensures)

pub bounds-table-i : goal.bounds-table-i
bounds-table-i c = omega (arith, c.loop-i-test.true, rows_few _ _ c.requires.step.0.rule c.row_count-count.ensures, c.rule_rows-table.ensures.places)

pub times_row-t-requires : goal.times_row-t-requires
times_row-t-requires c = let w = c in
    let v = row_fits w.args.s w.requires.step.0 (six (goal.at.times_row-t-requires c).Start) w.requires.step.1 c.loop-i.i (here (goal.at.times_row-t-requires c).In-loop-i) (factors (goal.at.times_row-t-requires c).Start) in
    record { counts = v.0; part = subst (λ (k : ℕ). (part_of w.args.s.m.part ≡ []) ⊎ (part_at w.args.s.letters (k % 64) ≡ [])) (sym (row (goal.at.times_row-t-requires c).In-loop-i)) v.1 }

pub row_of-r-requires : goal.row_of-r-requires
row_of-r-requires c = (product (goal.at.row_of-r-requires c).After-times_row-t).counted

-- M's coefficient is within
limit : (c : Start) → nat_abs c.args.s.m.coef ≤ 2147483647
unfolding term_of
limit c = in_limit (term_of c.args.s.m) c.requires.step.0.m.in_shape

-- the product's coefficient is read back as it was stored
own : (c : After-times_row-t) → nat_abs c.times_row-t.result.coef ≤ 2147483647
own c = let w = c.before.before.before.before.before.before.before in product-light w.args.s w.requires.step.0 (six w) _ _ (product c)

kept : (c : After-times_row-t) → back c.times_row-t.result.coef ≡ c.times_row-t.result.coef
kept c = fits_back _ (omega (arith, own c))

pub bring-held-requires : goal.bring-held-requires
bring-held-requires c = let w = c in
    let v = c.loop-i in
    let t = v.invariant.1 in
    let i = c in
    let big = nat_abs w.args.s.m.coef in
    let most : v.i ≤ 7 = omega (arith, few (goal.at.bring-held-requires c).In-loop-i, i.loop-i-test.true) in (
      t.run,
      light_more (2147483647 + v.i * big) coef_bound _ _
          (omega (arith, mul-le-mul_right big most, limit (goal.at.bring-held-requires c).Start)) (t.light 2147483647 w.requires.run.1),
      omega (arith, t.count, few (goal.at.bring-held-requires c).In-loop-i, i.loop-i-test.true, w.requires.run.2, v.invariant.2),
      omega (arith, t.count, few (goal.at.bring-held-requires c).In-loop-i, i.loop-i-test.true, w.requires.run.3, v.invariant.3),
      c.row_of-r.ensures.valid,
      rw (kept (goal.at.bring-held-requires c).After-times_row-t) (omega (arith, own (goal.at.bring-held-requires c).After-times_row-t)),
    )

pub loop-i-preserved : goal.loop-i-preserved
loop-i-preserved c = let w = c in
    let v = c.loop-i in (
      omega arith,
      turned_more w.args.s w.requires.step.0 (six (goal.at.loop-i-preserved c).Start) _ _ _ v.i v.held _ _ _ _ _ _ _ _
          (here (goal.at.loop-i-preserved c).In-loop-i)
          v.invariant.1 (product (goal.at.loop-i-preserved c).After-times_row-t)
          c.row_of-r.ensures (kept (goal.at.loop-i-preserved c).After-times_row-t)
          c.bring-held.ensures,
      omega (arith, v.invariant.2),
      omega (arith, v.invariant.3),
    )

pub shape_of-rows : goal.shape_of-rows
shape_of-rows c = c.loop-i.invariant.2

pub shape_of-coefs : goal.shape_of-coefs
shape_of-coefs c = c.loop-i.invariant.3

pub returns : goal.returns
returns c = let w = c in
    let v = c.loop-i in
    let e : v.i ≡ c.row_count-count.result = omega (arith, c.loop-i-test.false, v.invariant.0) in
    turned_all w.args.s w.requires.step.0 (six (goal.at.returns c).Start) _ _ _ v.i _ _ _ (omega (arith, e, c.row_count-count.ensures))
    (omega (arith, e, rows_few _ _ w.requires.step.0.rule c.row_count-count.ensures)) v.invariant.1
