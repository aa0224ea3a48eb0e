-- Terms that stay: what vanishes is not seen in what is gathered. Assumes nothing.
use Rattle.std.specs.Prelude.{◌≡◌, refl, Bool, true, false, not, T, ℤ, pos, ◌+ℤ◌, ◌*ℤ◌}
use Rattle.std.proofs.Common.{sym, ◌∙◌, ap}
use mathlib.Core.List.{List, [], ◌∷◌, ◌++◌, map, flat_map}
use Rattle.std.proofs.Math.IntN as I
use Rattle.specification.specs.Results.{when◌then◌else◌}
use Rattle.specification.specs.Lists.{select}
use Rattle.specification.specs.Terms.{Term, term_sign, tidy, vanishes, staying, gather}
use Rattle.theory.specs.Tests.{holds, is-zero}
use Rattle.theory.specs.Elements.{All, all_select}
use Rattle.theory.specs.Order.{Monomial, monomial}
use Rattle.theory.specs.Gathering.Weights.{weight, weigh}
use Rattle.theory.specs.Gathering.Coefficients.{only}
use Rattle.theory.specs.Gathering.Gathered.{gather-gathered, gathered_known, gather-coefficient}

-- what vanishes goes
pub vanishing_goes : (t : Term) (ts : List Term) → vanishes t ≡ true → staying (t ∷ ts) ≡ staying ts
unfolding staying select
vanishing_goes t ts e = ap (λ (b : Bool). when not b then t ∷ staying ts else staying ts) e

-- what does not stays
pub other-stays : (t : Term) (ts : List Term) → vanishes t ≡ false → staying (t ∷ ts) ≡ t ∷ staying ts
unfolding staying select
other-stays t ts e = ap (λ (b : Bool). when not b then t ∷ staying ts else staying ts) e

-- once tidied, what vanishes weighs nothing
vanished_weight : (φ : Monomial → ℤ) (t : Term) → T (vanishes t) → weight φ (tidy t) ≡ pos 0
unfolding vanishes tidy
vanished_weight φ t h =
    ap (λ (z : ℤ). z *ℤ φ (monomial (tidy t))) (ap (λ (z : ℤ). t.coef *ℤ z) (is-zero (term_sign t) h) ∙ I.*ℤ-zero t.coef) ∙ I.zero-*ℤ (φ (monomial (tidy t)))

weigh-staying : (φ : Monomial → ℤ) (ts : List Term) → weigh φ (map tidy (staying ts)) ≡ weigh φ (map tidy ts)
unfolding staying select weigh
weigh-staying φ [] = refl
weigh-staying φ (t ∷ ts) = go (vanishes t) refl (weigh-staying φ ts)
  where
    go : (b : Bool) → vanishes t ≡ b → weigh φ (map tidy (staying ts)) ≡ weigh φ (map tidy ts)
        → weigh φ (map tidy (when not b then t ∷ staying ts else staying ts)) ≡ weight φ (tidy t) +ℤ weigh φ (map tidy ts)
    go true e rest = rest ∙ sym (ap (λ (z : ℤ). z +ℤ weigh φ (map tidy ts)) (vanished_weight φ t (holds (vanishes t) e)) ∙ I.+ℤ_idl (weigh φ (map tidy ts)))
    go false e rest = ap (λ (z : ℤ). weight φ (tidy t) +ℤ z) rest

-- what vanishes is not seen in what is gathered
pub gather-staying : (ts : List Term) → gather (staying ts) ≡ gather ts
gather-staying ts =
    gathered_known (gather (staying ts)) (gather ts) (gather-gathered (staying ts)) (gather-gathered ts)
    (λ m. gather-coefficient m (staying ts) ∙ weigh-staying (only m) ts ∙ sym (gather-coefficient m ts))

-- ════ lists one behind the other

staying-append : (ts us : List Term) → staying (ts ++ us) ≡ staying ts ++ staying us
unfolding staying select
staying-append [] us = refl
staying-append (t ∷ ts) us = go (vanishes t) (staying-append ts us)
  where
    go : (b : Bool) → staying (ts ++ us) ≡ staying ts ++ staying us
        → (when not b then t ∷ staying (ts ++ us) else staying (ts ++ us)) ≡ (when not b then t ∷ staying ts else staying ts) ++ staying us
    go true rest = rest
    go false rest = ap (λ (l : List Term). t ∷ l) rest

-- what stays of each is what stays of all
pub staying-flat_map : {A : Type 0} (f : A → List Term) (xs : List A) → flat_map (λ (x : A). staying (f x)) xs ≡ staying (flat_map f xs)
unfolding flat_map staying select
staying-flat_map f [] = refl
staying-flat_map f (x ∷ xs) = ap (λ (l : List Term). staying (f x) ++ l) (staying-flat_map f xs) ∙ sym (staying-append (f x) (flat_map f xs))

-- ════ of which terms

-- what holds of all holds of those that stay
pub all_staying : (P : Term → Type 0) (ts : List Term) → All P ts → All P (staying ts)
unfolding staying
all_staying P ts h = all_select P (λ (t : Term). not (vanishes t)) ts h

-- what neither makes a term vanish nor stay changes nothing of which terms stay
pub staying-map : (f : Term → Term) → ((t : Term) → vanishes (f t) ≡ vanishes t) → (ts : List Term) → staying (map f ts) ≡ map f (staying ts)
unfolding staying select
staying-map f e [] = refl
staying-map f e (t ∷ ts) = ap (λ (b : Bool). when not b then f t ∷ staying (map f ts) else staying (map f ts)) (e t) ∙ go (vanishes t) (staying-map f e ts)
  where
    go : (b : Bool) → staying (map f ts) ≡ map f (staying ts)
        → (when not b then f t ∷ staying (map f ts) else staying (map f ts)) ≡ map f (when not b then t ∷ staying ts else staying ts)
    go true rest = rest
    go false rest = ap (λ (l : List Term). f t ∷ l) rest
