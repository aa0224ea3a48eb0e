-- The value of a form depends only on its letters: assignments that agree on the letters of the table give equal values. Assumes nothing.
use Rattle.std.specs.Prelude.{◌≡◌, ℕ, ◌<◌, ◌*ℤ◌, length}
use Rattle.std.proofs.Math.Path.{refl, ap}
use mathlib.Core.List.{List, [], ◌∷◌}
use Rattle.specification.specs.Letters.{vector}
use Rattle.specification.specs.Values.{Vec, ◌+v◌, ◌•◌, dot, wedge, triple}
use Rattle.specification.specs.Terms.{Term, Form}
use Rattle.specification.specs.Evaluation.{factor_value, factors_value, part_value, term_value, terms_value, value}
use Rattle.theory.specs.Elements.{All, all_implies}
use Rattle.theory.specs.Order.{monomial}
use Rattle.theory.specs.Shape.Letters.{Known, FactorKnown, MonomialKnown, AllKnown, known_is}

module _ (σ τ : ℕ → Vec) where
  -- both give each of the letters the same
  abbrev Agree : (letters : List ℕ) → Type 0
  Agree letters = All (λ (n : ℕ). σ n ≡ τ n) letters

  factor-agrees : (f : List ℕ) → Agree f → factor_value σ f ≡ factor_value τ f
  unfolding factor_value
  factor-agrees [] h = refl
  factor-agrees (a ∷ []) h = ap (λ (v : Vec). v.x) h.0
  factor-agrees (a ∷ b ∷ []) h = λ i. dot (h.0 i) (h.1.0 i)
  factor-agrees (a ∷ b ∷ c ∷ f) h = λ i. triple (h.0 i) (h.1.0 i) (h.1.1.0 i)

  factors-agree : (fs : List (List ℕ)) → All Agree fs → factors_value σ fs ≡ factors_value τ fs
  unfolding factors_value
  factors-agree [] h = refl
  factors-agree (f ∷ fs) h = λ i. factor-agrees f h.0 i *ℤ factors-agree fs h.1 i

  part-agrees : (p : List ℕ) → Agree p → part_value σ p ≡ part_value τ p
  unfolding part_value
  part-agrees [] h = refl
  part-agrees (a ∷ []) h = h.0
  part-agrees (a ∷ b ∷ p) h = λ i. wedge (h.0 i) (h.1.0 i)

  module _ (table : List ℕ) (agree : (n : ℕ) → n < length table → σ n ≡ τ n) where
    letters-agree : (kind : ℕ) (letters : List ℕ) → All (Known table kind) letters → Agree letters
    letters-agree kind = all_implies (Known table kind) (λ (n : ℕ). σ n ≡ τ n) (λ n k. agree n (known_is table kind n k).0)

    term-agrees : (t : Term) → MonomialKnown table (monomial t) → term_value σ t ≡ term_value τ t
    unfolding term_value
    term-agrees t k =
        let factors = factors-agree t.factors (all_implies (FactorKnown table) Agree (λ f h. letters-agree _ f h) t.factors k.factors) in
        let part = part-agrees t.part (letters-agree vector t.part k.part) in
        λ i. (t.coef *ℤ factors i) • part i

    terms-agree : (ts : List Term) → AllKnown table ts → terms_value σ ts ≡ terms_value τ ts
    unfolding terms_value
    terms-agree [] k = refl
    terms-agree (t ∷ ts) k = λ i. term-agrees t k.0 i +v terms-agree ts k.1 i

    -- a form whose letters are in the table has one value under both
    pub value_agrees : (f : Form) → AllKnown table f.terms → value σ f ≡ value τ f
    unfolding value
    value_agrees f k = terms-agree f.terms k
