-- Putting a term in the order of forms: a term that has this order is tidy, and a term that is tidied and does not vanish has it. Assumes nothing.
use Rattle.std.specs.Prelude.{◌≡◌, refl, Bool, true, false, List, [], ◌∷◌, ◌++◌, map, ℕ, T, eqb, length, ℤ, pos, ◌*ℤ◌}
use Rattle.std.proofs.Common.{sym, ◌∙◌, ap, eqb→eq}
use Rattle.algebra.specs.Integers as R
use Rattle.algebra.specs.Integers.{NonZero, factors-nonzero}
use Rattle.specification.specs.Results.{when◌then◌else◌}
use Rattle.specification.specs.Lists.{order, sorted}
use Rattle.specification.specs.Terms.{Term, compare_letters, exchange_sign, factor_sign, factors_sign, term_sign, tidy}
use Rattle.theory.specs.Elements.{All}
use Rattle.theory.specs.Order.{Monomial, monomial, nat-laws, letters-laws}
use Rattle.theory.specs.Sorting as O
use Rattle.theory.specs.Signs.{Strict, strict-sorted, strict-sign, sign-strict}

-- the letters of a factor ascend, those of a triple strictly
pub record FactorInOrder (f : List ℕ) : Type 0 where
  pub ascend : O.Asc nat-laws f
  pub strict : length f ≡ 3 → Strict f

-- a monomial in the order of forms: letters ascend inside each factor and the part, factors ascend
pub record InOrder (m : Monomial) : Type 0 where
  pub part : Strict m.0
  pub each : All FactorInOrder m.1
  pub order : O.Asc letters-laws m.1

-- ════ signs

-- the signs of factors one behind the other
pub signs-append : (k l : List (List ℕ)) → factors_sign (k ++ l) ≡ factors_sign k *ℤ factors_sign l
unfolding factors_sign
signs-append [] l = sym (R.one_*ℤ (factors_sign l))
signs-append (g ∷ k) l = ap (λ (z : ℤ). factor_sign g *ℤ z) (signs-append k l) ∙ sym (R.*ℤ_assoc (factor_sign g) (factors_sign k) (factors_sign l))

-- ════ what has this order is tidy

if_T : (b : Bool) (x y : ℤ) (P : ℤ → Type 0) → (T b → P x) → P y → P (when b then x else y)
if_T true x y P f g = f tt
if_T false x y P f g = g

-- the letters of such factors are not exchanged
pub in_order-signs : (fs : List (List ℕ)) → All FactorInOrder fs → factors_sign fs ≡ pos 1
unfolding factors_sign factor_sign
in_order-signs [] a = refl
in_order-signs (f ∷ fs) a =
    λ i. if_T (eqb (length f) 3) (exchange_sign f) (pos 1) (λ (z : ℤ). z ≡ pos 1) (λ t. strict-sign f (a.0.strict (eqb→eq (length f) 3 t))) refl i *ℤ in_order-signs fs a.1 i

-- letters in this order stay
pub in_order-map : (fs : List (List ℕ)) → All FactorInOrder fs → map (sorted order) fs ≡ fs
in_order-map [] a = refl
in_order-map (f ∷ fs) a = λ i. O.sort_asc nat-laws f a.0.ascend i ∷ in_order-map fs a.1 i

-- such factors stay where they are
pub in_order-factors : (fs : List (List ℕ)) → All FactorInOrder fs → O.Asc letters-laws fs → sorted compare_letters (map (sorted order) fs) ≡ fs
in_order-factors fs a o = ap (sorted compare_letters) (in_order-map fs a) ∙ O.sort_asc letters-laws fs o

-- nor those of a term in the order of forms
pub in_order-sign : (t : Term) → InOrder (monomial t) → term_sign t ≡ pos 1
in_order-sign t s = λ i. in_order-signs t.factors s.each i *ℤ strict-sign t.part s.part i

-- a term in the order of forms is tidy
pub in_order-tidy : (t : Term) → InOrder (monomial t) → tidy t ≡ t
unfolding tidy
in_order-tidy t s =
    λ i. record {
      coef = (ap (λ (z : ℤ). t.coef *ℤ z) (in_order-sign t s) ∙ R.*ℤ-1 t.coef) i;
      factors = in_order-factors t.factors s.each s.order i;
      part = strict-sorted t.part s.part i;
    }

-- ════ what is tidied and does not vanish has this order

eqb-three : (n : ℕ) → n ≡ 3 → eqb n 3 ≡ true
eqb-three n e = ap (λ (k : ℕ). eqb k 3) e

signs-factors : (fs : List (List ℕ)) → NonZero (factors_sign fs) → All FactorInOrder (map (sorted order) fs)
unfolding factors_sign factor_sign
signs-factors [] h = tt
signs-factors (f ∷ fs) h =
    let w = factors-nonzero (factor_sign f) (factors_sign fs) h in (
      record {
        ascend = O.asc_sort nat-laws f;
        strict = λ e. sign-strict f (λ z. w.0 (ap (λ (b : Bool). when b then exchange_sign f else pos 1) (eqb-three (length f) (sym (O.length-sorted order f) ∙ e)) ∙ z));
      },
      signs-factors fs w.1,
    )

-- a term that is tidied and does not vanish is in the order of forms
pub tidy-in_order : (t : Term) → NonZero (tidy t).coef → InOrder (monomial (tidy t))
unfolding tidy
tidy-in_order t h =
    let w = factors-nonzero t.coef (factors_sign t.factors *ℤ exchange_sign t.part) h in
    let v = factors-nonzero (factors_sign t.factors) (exchange_sign t.part) w.1 in
    record {
      part = sign-strict t.part v.1;
      each = O.all_sorted compare_letters FactorInOrder (map (sorted order) t.factors) (signs-factors t.factors v.0);
      order = O.asc_sort letters-laws (map (sorted order) t.factors);
    }
