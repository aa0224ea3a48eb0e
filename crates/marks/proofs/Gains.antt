-- What a step adds to a term's monomial, one row after the other: a product with another mark than the term's adds nothing. Assumes nothing.
use mathlib.Core.Path.{◌≡◌, refl, sym, ap, subst, ◌∙◌}
use mathlib.Core.Bool.{Bool, true, false, cond}
use mathlib.Core.List.{List, [], ◌∷◌, ◌++◌, map}
use Prim.Native.Nat.{ℕ, ◌+◌, ◌*◌, ◌<◌, ◌≤◌, Ordering}
use native.Mathlib.Omega.{arith}
use lib.Dec.{T, compare_is_eq}
use lib.IntN.{ℤ, pos, nat_abs, ◌+ℤ◌, ◌*ℤ◌}
use lib.IntN as I
use lib.ListN.{length, get_or, take}
use Rattle.algebra.specs.Integers as R
use Rattle.specification.specs.Terms.{compare_terms, times_term, gather}
use Rattle.specification.specs.Terms as S
use Rattle.specification.specs.Rules.{step_terms}
use Rattle.theory.specs.Order.{monomial, compare_monomials, compare_terms-monomial, compare_terms_eq}
use Rattle.theory.specs.Gathering.Weights.{weight, weigh, weigh-append}
use Rattle.theory.specs.Gathering.Coefficients.{only, coeff}
use Rattle.theory.specs.Gathering.Gathered.{gather-coefficient}
use Rattle.theory.proofs.Rules.Table.{step_terms-rule}
use Rattle.terms.specs.declared.types.Term.{Term}
use Rattle.terms.specs.Abstraction.{term_of}
use Rattle.terms.proofs.Arrays.{mapped-behind}
use Rattle.gathering.specs.Bringing.{is_like}
use Rattle.rules.specs.declared.steps.Step.{Step}
use Rattle.rule_table.specs.Table.{rule_rows, row_term, first_row, row_count}
use Rattle.rules.specs.Steps.{step_of, StepValid}
use Rattle.rule_table.proofs.Tied.{tied, row_next, row_all}
use Rattle.rules.proofs.Taking.{rows}
use Rattle.marking.specs.Marks.{mark_of}
use Rattle.marks.specs.Steps.{RowGained}
use Rattle.marking.proofs.MarkedTerms.{mark-like, mark-tidy}

-- the products with the first rows together
pub record Gained (t : Term) (s : Step) (i : ℕ) (g : ℤ) : Type 0 where
  pub is : g ≡ coeff (monomial (term_of t)) (map S.tidy (map (times_term (term_of s.m)) (take i (rows s))))
  pub light : nat_abs g ≤ i * 2147483647

pub gained_none : (t : Term) (s : Step) → Gained t s 0 (pos 0)
unfolding weigh
gained_none t s = record { is = refl; light = omega arith }

-- a like term adds its coefficient, any other nothing
like-adds : (t u : S.Term) → is_like t u ≡ true → weight (only (monomial t)) u ≡ u.coef
unfolding is_like only
like-adds t u e = ap (λ (z : ℤ). u.coef *ℤ z) (go (compare_monomials (monomial t) (monomial u)) (ap (λ (o : Ordering). compare_is_eq o)
    (sym (compare_terms-monomial t u)) ∙ e)) ∙ R.*ℤ-1 u.coef
  where
    go : (o : Ordering) → compare_is_eq o ≡ true → cond (compare_is_eq o) (pos 1) (pos 0) ≡ pos 1
    go Ordering.lt e = absurd (subst T (sym e) tt)
    go Ordering.eq e = refl
    go Ordering.gt e = absurd (subst T (sym e) tt)

unlike-adds : (t u : S.Term) → is_like t u ≡ false → weight (only (monomial t)) u ≡ pos 0
unfolding is_like only
unlike-adds t u e = ap (λ (z : ℤ). u.coef *ℤ z) (go (compare_monomials (monomial t) (monomial u)) (ap (λ (o : Ordering). compare_is_eq o)
    (sym (compare_terms-monomial t u)) ∙ e)) ∙ I.*ℤ-zero u.coef
  where
    go : (o : Ordering) → compare_is_eq o ≡ false → cond (compare_is_eq o) (pos 1) (pos 0) ≡ pos 0
    go Ordering.lt e = refl
    go Ordering.eq e = absurd (subst T e tt)
    go Ordering.gt e = refl

-- terms of unlike marks are unlike
unlike-marks : (t u : S.Term) → (mark_of t ≡ mark_of u → ⊥) → is_like t u ≡ false
unfolding is_like
unlike-marks t u h = go (compare_terms t u) (compare_terms_eq t u)
  where
    go : (o : Ordering) → (o ≡ Ordering.eq → (t.part ≡ u.part) × (t.factors ≡ u.factors)) → compare_is_eq o ≡ false
    go Ordering.lt e = refl
    go Ordering.eq e = let w = e refl in absurd (h (mark-like t u w.0 w.1))
    go Ordering.gt e = refl

-- ════ one row

module _ (t p : S.Term) (u : Term) (tidied : term_of u ≡ S.tidy p) (b : Bool) (eb : b ≡ is_like t (term_of u)) where
  pub row-like : b ≡ true → nat_abs u.coef ≤ 2147483647 → (r : ℤ) → r ≡ u.coef → RowGained t p r
  unfolding term_of
  row-like q light r e = record {
    is = e ∙ sym (like-adds t (term_of u) (sym eb ∙ q)) ∙ ap (weight (only (monomial t))) tidied;
    light = subst (λ (z : ℤ). nat_abs z ≤ 2147483647) (sym e) light;
  }

  pub row-unlike : b ≡ false → RowGained t p (pos 0)
  row-unlike q = record { is = sym (unlike-adds t (term_of u) (sym eb ∙ q)) ∙ ap (weight (only (monomial t))) tidied; light = omega arith }

-- ════ one row after the other

module _ (t : Term) (s : Step) (i : ℕ) (here : i < row_count s.rule) (g : ℤ) (v : Gained t s i g) where
  -- M times the next row
  abbrev product : S.Term
  product = times_term (term_of s.m) (row_term s.letters (get_or rule_rows (first_row s.rule + i) 0))

  -- what it adds
  pub gained_more : (r h : ℤ) → RowGained (term_of t) product r → h ≡ g +ℤ r → Gained t s (i + 1) h
  unfolding weigh
  gained_more r h w e =
      let φ = only (monomial (term_of t)) in
      let ps = map (times_term (term_of s.m)) (take i (rows s)) in
      let row = row_term s.letters (get_or rule_rows (first_row s.rule + i) 0) in
      let more : map S.tidy (map (times_term (term_of s.m)) (take (i + 1) (rows s))) ≡ map S.tidy ps ++ S.tidy product ∷ [] =
      ap (λ (l : List S.Term). map S.tidy (map (times_term (term_of s.m)) l)) (row_next s.letters (first_row s.rule) (row_count s.rule) i here)
      ∙ ap (map S.tidy) (mapped-behind (times_term (term_of s.m)) (take i (rows s)) row) ∙ mapped-behind S.tidy ps product in
      record {
        is = e ∙ (λ j. v.is j +ℤ w.is j)
            ∙ ap (λ (z : ℤ). weigh φ (map S.tidy ps) +ℤ z) (sym (I.+ℤ_idr (weight φ (S.tidy product))))
            ∙ sym (weigh-append φ (map S.tidy ps) (S.tidy product ∷ [])) ∙ ap (weigh φ) (sym more);
        light = subst (λ (z : ℤ). nat_abs z ≤ (i + 1) * 2147483647) (sym e) (omega (arith, R.nat_abs_+ℤ g r, v.light, w.light));
      }

  -- a product with another mark adds nothing
  pub gained_apart : (k h : ℕ) → k ≡ mark_of product → h ≡ mark_of (term_of t) → (k ≡ h → ⊥) → Gained t s (i + 1) g
  gained_apart k h ek eh n =
      let unlike : is_like (term_of t) (S.tidy product) ≡ false = unlike-marks (term_of t) (S.tidy product) (λ e. n (ek ∙ sym (mark-tidy product) ∙ sym e
      ∙ sym eh)) in
      gained_more (pos 0) g (record { is = sym (unlike-adds (term_of t) (S.tidy product) unlike); light = omega arith }) (sym (I.+ℤ_idr g))

-- the products with all rows
pub gained_all : (t : Term) (s : Step) (i : ℕ) (g : ℤ) → StepValid s → length s.letters ≡ 6 → i ≡ row_count s.rule → Gained t s i g
    → g ≡ coeff (monomial (term_of t)) (gather (step_terms (step_of s)))
unfolding step_of
gained_all t s i g v six e w =
    w.is ∙ ap (λ (n : ℕ). coeff (monomial (term_of t)) (map S.tidy (map (times_term (term_of s.m)) (take n (rows s))))) e
    ∙ ap (λ (l : List S.Term). coeff (monomial (term_of t)) (map S.tidy l))
    (ap (map (times_term (term_of s.m))) (row_all s.letters (first_row s.rule) (row_count s.rule) ∙ tied s.rule v.rule s.letters six)
    ∙ sym (step_terms-rule (step_of s)))
    ∙ sym (gather-coefficient (monomial (term_of t)) (step_terms (step_of s)))
