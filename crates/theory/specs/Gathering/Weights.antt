-- Sums over terms, each its coefficient times a weight of its monomial: inserting adds, gathering keeps the sum over the tidied terms.
-- The coefficient of a monomial is such a sum, and so is each component of a value. Assumes nothing.
use Rattle.std.specs.Prelude.{◌≡◌, ℤ, pos, negsuc, ◌+ℤ◌, ◌*ℤ◌}
use Rattle.std.proofs.Math.Path.{refl, sym, ap}
use Rattle.std.proofs.Common.{◌∙◌}
use mathlib.Core.List.{List, [], ◌∷◌, ◌++◌, map}
use Prim.Native.Nat.{zero, suc, Ordering}
use Rattle.std.proofs.Math.IntN as I
use Rattle.algebra.specs.Integers as R
use Rattle.specification.specs.Results.{when◌then◌else◌}
use Rattle.specification.specs.Lists.{by_order}
use Rattle.specification.specs.Terms.{Term, tidy, with_coef, is_zero, keep, insert, gather_into, gather}
use Rattle.theory.specs.Elements.{All}
use Rattle.theory.specs.Order.{View, vlt, veq, vgt, Monomial, monomial, LtMonomial, term-view}

module _ (φ : Monomial → ℤ) where
  -- a term's part of the sum
  abbrev pub weight : Term → ℤ
  weight t = t.coef *ℤ φ (monomial t)

  -- the sum
  unfoldable pub weigh : List Term → ℤ
  weigh [] = pos 0
  weigh (t ∷ ts) = weight t +ℤ weigh ts

module _ (φ : Monomial → ℤ) where
  weigh-keep : (t : Term) (ts : List Term) → weigh φ (keep t ts) ≡ weight φ t +ℤ weigh φ ts
  unfolding keep is_zero weigh
  weigh-keep t ts = go t.coef refl
    where
      go : (c : ℤ) → t.coef ≡ c → weigh φ (when is_zero c then ts else t ∷ ts) ≡ weight φ t +ℤ weigh φ ts
      go (pos zero) e =
          sym (ap (λ (z : ℤ). z *ℤ φ (monomial t) +ℤ weigh φ ts) e ∙ ap (λ (z : ℤ). z +ℤ weigh φ ts) (I.zero-*ℤ (φ (monomial t))) ∙ I.+ℤ_idl (weigh φ ts))
      go (pos (suc n)) e = refl
      go (negsuc n) e = refl

  -- a term in its place before u, added to u, or behind u, where the rest is r
  weigh-place : (t u : Term) {o : Ordering} → View LtMonomial (monomial t) (monomial u) o → (us r : List Term)
      → weigh φ r ≡ weight φ t +ℤ (weight φ u +ℤ weigh φ us)
      → weigh φ (by_order o (keep t (u ∷ us)) (keep (with_coef (t.coef +ℤ u.coef) u) us) r) ≡ weight φ t +ℤ (weight φ u +ℤ weigh φ us)
  unfolding weigh
  weigh-place t u (vlt h) us r e = weigh-keep t (u ∷ us)
  weigh-place t u (veq h) us r e =
      weigh-keep (with_coef (t.coef +ℤ u.coef) u) us
      ∙ ap (λ (z : ℤ). z +ℤ weigh φ us) (R.+ℤ-*ℤ t.coef u.coef (φ (monomial u)))
      ∙ I.+ℤ_assoc (t.coef *ℤ φ (monomial u)) (weight φ u) (weigh φ us)
      ∙ ap (λ (n : Monomial). t.coef *ℤ φ n +ℤ (weight φ u +ℤ weigh φ us)) (sym h)
  weigh-place t u (vgt h) us r e = e

  -- inserting a term adds it
  pub weigh-insert : (t : Term) (us : List Term) → weigh φ (insert t us) ≡ weight φ t +ℤ weigh φ us
  unfolding insert weigh
  weigh-insert t [] = weigh-keep t []
  weigh-insert t (u ∷ us) =
      weigh-place t u (term-view t u) us (u ∷ insert t us)
      (ap (λ (z : ℤ). weight φ u +ℤ z) (weigh-insert t us) ∙ R.+ℤ_left_comm (weight φ u) (weight φ t) (weigh φ us))

  weigh-gather_into : (done ts : List Term) → weigh φ (gather_into done ts) ≡ weigh φ done +ℤ weigh φ (map tidy ts)
  unfolding gather_into weigh
  weigh-gather_into done [] = sym (I.+ℤ_idr (weigh φ done))
  weigh-gather_into done (t ∷ ts) =
      weigh-gather_into (insert (tidy t) done) ts
      ∙ ap (λ (z : ℤ). z +ℤ weigh φ (map tidy ts)) (weigh-insert (tidy t) done ∙ I.+ℤ_comm (weight φ (tidy t)) (weigh φ done))
      ∙ I.+ℤ_assoc (weigh φ done) (weight φ (tidy t)) (weigh φ (map tidy ts))

  -- gathering keeps the sum over the tidied terms
  pub weigh-gather : (ts : List Term) → weigh φ (gather ts) ≡ weigh φ (map tidy ts)
  unfolding gather weigh
  weigh-gather ts = weigh-gather_into [] ts ∙ I.+ℤ_idl (weigh φ (map tidy ts))

  -- and so the sum over the terms, where tidying keeps each one's part
  pub weigh-tidied : (ts : List Term) → All (λ (t : Term). weight φ (tidy t) ≡ weight φ t) ts → weigh φ (map tidy ts) ≡ weigh φ ts
  unfolding weigh
  weigh-tidied [] h = refl
  weigh-tidied (t ∷ ts) h = λ i. h.0 i +ℤ weigh-tidied ts h.1 i

-- terms behind terms: the sums added
pub weigh-append : (φ : Monomial → ℤ) (ts us : List Term) → weigh φ (ts ++ us) ≡ weigh φ ts +ℤ weigh φ us
unfolding weigh
weigh-append φ [] us = sym (I.+ℤ_idl (weigh φ us))
weigh-append φ (t ∷ ts) us = ap (λ (z : ℤ). weight φ t +ℤ z) (weigh-append φ ts us) ∙ sym (I.+ℤ_assoc (weight φ t) (weigh φ ts) (weigh φ us))

-- a term with its coefficient times e
abbrev pub scaled : ℤ → Term → Term
scaled e t = with_coef (e *ℤ t.coef) t

-- all coefficients times e: the sum times e
pub weigh-scaled : (φ : Monomial → ℤ) (e : ℤ) (ts : List Term) → weigh φ (map (scaled e) ts) ≡ e *ℤ weigh φ ts
unfolding weigh
weigh-scaled φ e [] = sym (I.*ℤ-zero e)
weigh-scaled φ e (t ∷ ts) = (λ i. R.*ℤ_assoc e t.coef (φ (monomial t)) i +ℤ weigh-scaled φ e ts i) ∙ sym (R.*ℤ-+ℤ e (weight φ t) (weigh φ ts))
