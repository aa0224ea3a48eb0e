-- `evaluation::values::form_value` meets its contract: v is the sum of the terms from n on. Assumes nothing.
use Rattle.std.proofs.Common.{rules}
use mathlib.Core.Path.{◌≡◌}
use Prim.Native.Nat.{◌≤◌}
use native.Mathlib.Nat.{le_refl}
use native.Mathlib.Omega.{arith}
use lib.ListN.{length}
use Rattle.terms.proofs.Arrays.{no_term}
use Rattle.forms.proofs.Forms.{term_at_lem}
use Rattle.evaluation.proofs.Folds.{no-terms, term_more, sum_small, summand-small, terms_of_lem, all_terms}
use Rattle.evaluation.proofs.values.form_value.Goals.{Start}
use Rattle.evaluation.proofs.values.form_value.Goals as goal

-- there are 48 places
places : (c : Start) → length c.args.f.terms ≡ 48
places c = search rules

-- so that the terms are among them
few : (c : Start) → c.args.f.count ≤ length c.args.f.terms
few c = omega (arith, places c, c.requires.1.few)

pub loop-n-init : goal.loop-n-init
loop-n-init c = let w = c in (le_refl _, no-terms _ _ _ (few (goal.at.loop-n-init c).Start))

pub offset_bounds-f-n : goal.offset_bounds-f-n
offset_bounds-f-n c = omega (arith, c.loop-n.invariant.0, c.requires.1.few)

pub bounds-f-n : goal.bounds-f-n
bounds-f-n c = omega (arith, c.loop-n.invariant.0, c.requires.1.few)

pub term_value-requires : goal.term_value-requires
term_value-requires c =
    let w = c in
    let v = c.loop-n in
    (w.requires.0, term_at_lem _ _ _ w.requires.1 (few (goal.at.term_value-requires c).Start) (omega (arith, v.invariant.0, c.loop-n-test.true)))

pub plus-v-requires : goal.plus-v-requires
plus-v-requires c =
    let w = c in
    let v = c.loop-n in
    let t = c.loop-n-test.true in (
      summand-small _ _ _ w.requires.0 (term_at_lem _ _ _ w.requires.1 (few (goal.at.plus-v-requires c).Start)
          (omega (arith, v.invariant.0, t))) c.term_value.ensures,
      sum_small _ _ _ (few (goal.at.plus-v-requires c).Start) _ _ w.requires.0 (terms_of_lem _ w.requires.1) w.requires.1.few t v.invariant.1,
    )

pub loop-n-preserved : goal.loop-n-preserved
loop-n-preserved c =
    let w = c in
    let v = c.loop-n in (
      omega (arith, v.invariant.0),
      term_more _ _ _ (few (goal.at.loop-n-preserved c).Start) _ no_term _ _ _ c.loop-n-test.true v.invariant.0 v.invariant.1 c.term_value.ensures
          c.plus-v.ensures,
    )

pub returns : goal.returns
returns c = all_terms _ _ _ _ c.loop-n-test.false c.loop-n.invariant.1
