-- Tidying, inserting and gathering keep the value of terms; joining adds, and turned signs negate. Assumes nothing.
use Rattle.std.specs.Prelude.{◌≡◌, refl, ℕ, pos, negsuc, ◌+ℤ◌, ◌*ℤ◌}
use Rattle.std.proofs.Math.Path.{sym, ap}
use Rattle.std.proofs.Common.{◌∙◌}
use mathlib.Core.List.{List, [], ◌∷◌, ◌++◌, map}
use Rattle.std.proofs.Math.IntN.{ℤ}
use Rattle.std.proofs.Math.IntN as I
use Rattle.algebra.specs.Integers as R
use Rattle.specification.specs.Lists.{order, sorted}
use Rattle.specification.specs.Values.{Vec, scalar_value, ◌+v◌, ◌•◌}
use Rattle.specification.specs.Terms.{Term, compare_letters, exchange_sign, factors_sign, tidy, staying, negated, insert, gather}
use Rattle.specification.specs.Evaluation.{factors_value, part_value, term_value, terms_value}
use Rattle.theory.specs.Elements.{All, all_implies}
use Rattle.theory.specs.Order.{Monomial}
use Rattle.theory.specs.Gathering.Weights.{weight, weigh, weigh-insert, weigh-gather, weigh-tidied}
use Rattle.theory.specs.Gathering.Staying.{gather-staying, all_staying}
use Rattle.theory.specs.Shape.Terms.{Formed}
use Rattle.theory.specs.Values.Vectors.{by-components, +v_assoc, zero_+v, •_zero, •-•, •-+}
use Rattle.theory.proofs.Values.Exchanges.{factors-sorted, part-sorted}

-- ════ a component of a value is a sum over the terms

-- one of the three components
record Component (π : Vec → ℤ) : Type 0 where
  of_zero : π (scalar_value (pos 0)) ≡ pos 0
  of_sum : (a b : Vec) → π (a +v b) ≡ π a +ℤ π b
  of_multiple : (k : ℤ) (a : Vec) → π (k • a) ≡ k *ℤ π a

first : Component (λ v. v.x)
first = record { of_zero = refl; of_sum = λ a b. refl; of_multiple = λ k a. refl }

second : Component (λ v. v.y)
second = record { of_zero = refl; of_sum = λ a b. refl; of_multiple = λ k a. refl }

third : Component (λ v. v.z)
third = record { of_zero = refl; of_sum = λ a b. refl; of_multiple = λ k a. refl }

module _ (σ : ℕ → Vec) where
  -- the component of a monomial's value
  abbrev part_of : (Vec → ℤ) → Monomial → ℤ
  part_of π m = factors_value σ m.1 *ℤ π (part_value σ m.0)

  module _ (π : Vec → ℤ) (c : Component π) where
    term_weighs : (t : Term) → π (term_value σ t) ≡ weight (part_of π) t
    unfolding term_value
    term_weighs t =
        c.of_multiple (t.coef *ℤ factors_value σ t.factors) (part_value σ t.part)
        ∙ R.*ℤ_assoc t.coef (factors_value σ t.factors) (π (part_value σ t.part))

    terms-weigh : (ts : List Term) → π (terms_value σ ts) ≡ weigh (part_of π) ts
    unfolding terms_value weigh
    terms-weigh [] = c.of_zero
    terms-weigh (t ∷ ts) = c.of_sum (term_value σ t) (terms_value σ ts) ∙ (λ i. term_weighs t i +ℤ terms-weigh ts i)

    insert-component : (t : Term) (us : List Term) → π (terms_value σ (insert t us)) ≡ π (term_value σ t +v terms_value σ us)
    insert-component t us =
        terms-weigh (insert t us) ∙ weigh-insert (part_of π) t us
        ∙ sym (c.of_sum (term_value σ t) (terms_value σ us) ∙ (λ i. term_weighs t i +ℤ terms-weigh us i))

    gather-component : (ts : List Term) → All (λ (t : Term). term_value σ (tidy t) ≡ term_value σ t) ts → π (terms_value σ (gather ts)) ≡ π (terms_value σ ts)
    gather-component ts h =
        terms-weigh (gather ts) ∙ weigh-gather (part_of π) ts
        ∙ weigh-tidied (part_of π) ts
        (all_implies (λ (t : Term). term_value σ (tidy t) ≡ term_value σ t) (λ (t : Term). weight (part_of π) (tidy t) ≡ weight (part_of π) t)
        (λ t e. sym (term_weighs (tidy t)) ∙ ap π e ∙ term_weighs t) ts h)
        ∙ sym (terms-weigh ts)

  -- ════ the theorems

  -- a term put in the order of forms has its value
  pub tidy_value : (kind : ℕ) (t : Term) → Formed kind t → term_value σ (tidy t) ≡ term_value σ t
  unfolding tidy term_value
  tidy_value kind t h =
      let c : ℤ = t.coef in
      let s : ℤ = factors_sign t.factors in
      let s' : ℤ = exchange_sign t.part in
      let v : ℤ = factors_value σ (sorted compare_letters (map (sorted order) t.factors)) in
      let p : Vec = part_value σ (sorted order t.part) in
      ap (λ (k : ℤ). k • p) (regroup c s s' v)
      ∙ sym (•-• (c *ℤ (s *ℤ v)) s' p)
      ∙ (λ i. (c *ℤ factors-sorted σ t.factors h.lengths i) • part-sorted σ t.part h.part i)
    where
      regroup : (c s s' v : ℤ) → (c *ℤ (s *ℤ s')) *ℤ v ≡ (c *ℤ (s *ℤ v)) *ℤ s'
      regroup c s s' v =
          R.*ℤ_assoc c (s *ℤ s') v
          ∙ ap (λ (k : ℤ). c *ℤ k) (R.*ℤ_assoc s s' v ∙ ap (λ (k : ℤ). s *ℤ k) (I.*ℤ_comm s' v) ∙ sym (R.*ℤ_assoc s v s'))
          ∙ sym (R.*ℤ_assoc c (s *ℤ v) s')

  -- inserting adds the term's value
  pub insert_value : (t : Term) (us : List Term) → terms_value σ (insert t us) ≡ term_value σ t +v terms_value σ us
  insert_value t us =
      by-components (insert-component (λ v. v.x) first t us) (insert-component (λ v. v.y) second t us) (insert-component (λ v. v.z) third t us)

  -- gathering keeps the value
  pub gather_value : (kind : ℕ) (ts : List Term) → All (Formed kind) ts → terms_value σ (gather ts) ≡ terms_value σ ts
  gather_value kind ts h =
      let kept = all_implies (Formed kind) (λ (t : Term). term_value σ (tidy t) ≡ term_value σ t) (tidy_value kind) ts h in
      by-components (gather-component (λ v. v.x) first ts kept) (gather-component (λ v. v.y) second ts kept) (gather-component (λ v. v.z) third ts kept)

  -- what vanishes has no value
  pub staying_value : (kind : ℕ) (ts : List Term) → All (Formed kind) ts → terms_value σ (staying ts) ≡ terms_value σ ts
  staying_value kind ts h =
      sym (gather_value kind (staying ts) (all_staying (Formed kind) ts h)) ∙ ap (terms_value σ) (gather-staying ts)
      ∙ gather_value kind ts h

  -- joining lists adds their values
  pub append_value : (ts us : List Term) → terms_value σ (ts ++ us) ≡ terms_value σ ts +v terms_value σ us
  unfolding terms_value
  append_value [] us = sym (zero_+v (terms_value σ us))
  append_value (t ∷ ts) us =
      ap (λ (v : Vec). term_value σ t +v v) (append_value ts us) ∙ sym (+v_assoc (term_value σ t) (terms_value σ ts) (terms_value σ us))

  negated_value : (t : Term) → term_value σ (negated t) ≡ negsuc 0 • term_value σ t
  unfolding term_value
  negated_value t =
      let v : ℤ = factors_value σ t.factors in
      ap (λ (k : ℤ). k • part_value σ t.part)
      (ap (λ (k : ℤ). k *ℤ v) (sym (R.neg_one_*ℤ t.coef)) ∙ R.*ℤ_assoc (negsuc 0) t.coef v)
      ∙ sym (•-• (negsuc 0) (t.coef *ℤ v) (part_value σ t.part))

  -- turned signs negate
  pub negated-values : (ts : List Term) → terms_value σ (map negated ts) ≡ negsuc 0 • terms_value σ ts
  unfolding terms_value
  negated-values [] = sym (•_zero (negsuc 0))
  negated-values (t ∷ ts) = (λ i. negated_value t i +v negated-values ts i) ∙ sym (•-+ (negsuc 0) (term_value σ t) (terms_value σ ts))
