-- Where a variable stands at most n times in each key, some number from 0 to n for it leaves a summand: the grid lemma on the keys of one rest.
-- Assumes nothing.
use mathlib.Core.Path.{◌≡◌, refl, sym, ◌∙◌, ap}
use mathlib.Core.Bool.{Bool, true, false}
use mathlib.Core.List.{List, [], ◌∷◌}
use mathlib.Core.Logic.{inl, inr}
use Prim.Native.Nat.{ℕ, zero, suc, ◌+◌, ◌^◌, ◌≤◌, ◌<◌}
use native.Mathlib.Nat as N
use native.Mathlib.Omega.{arith}
use lib.Dec.{eqb}
use lib.ListN.{length}
use borrow.Author.Tests.{eq-eqb, ne_eqb, eqb-true, eqb-false}
use lib.IntN.{ℤ, pos, ◌+ℤ◌, ◌*ℤ◌}
use lib.IntN as I
use Rattle.algebra.specs.Integers as R
use Rattle.algebra.proofs.Grid.{eval, AllZero, grid-points}
use Rattle.theory.specs.Elements.{All}
use Rattle.polynomials.specs.Keys.{rest, exponent, Ordered}
use Rattle.polynomials.specs.Summands.{Summand, weigh, substituted, is_some, Rising}
use Rattle.polynomials.proofs.Keys.{key_known}
use Rattle.polynomials.proofs.Summands.{substituted-weigh, AllOrdered}

-- 1 where two numbers are equal, else 0
unfoldable same : ℕ → ℕ → ℤ
same a b = go (eqb a b)
  where
    go : Bool → ℤ
    go true = pos 1
    go false = pos 0

-- 1 for equal numbers
same_self : (a b : ℕ) → a ≡ b → same a b ≡ pos 1
unfolding same
same_self a b e = rw (eq-eqb a b e)

-- 0 for others
same_other : (a b : ℕ) → ¬ (a ≡ b) → same a b ≡ pos 0
unfolding same
same_other a b h = rw (ne_eqb a b h)

-- weights that agree on the keys give the same sum
agree : (P : ℕ → Type 0) (w u : ℕ → ℤ) → ((k : ℕ) → P k → w k ≡ u k) → (ms : List Summand) → All (λ (m : Summand). P m.key) ms → weigh w ms ≡ weigh u ms
unfolding weigh
agree P w u h [] a = refl
agree P w u h (m ∷ ms) a = λ i. m.coef *ℤ h m.key a.0 i +ℤ agree P w u h ms a.1 i

weigh_zero : (ms : List Summand) → weigh (λ k. pos 0) ms ≡ pos 0
unfolding weigh
weigh_zero [] = refl
weigh_zero (m ∷ ms) = simp (I.*ℤ-zero, weigh_zero ms)

-- a sum of weights
weigh-sum : (v : ℤ) (w u : ℕ → ℤ) (ms : List Summand) → weigh (λ k. w k +ℤ v *ℤ u k) ms ≡ weigh w ms +ℤ v *ℤ weigh u ms
unfolding weigh
weigh-sum v w u [] = simp (I.*ℤ-zero)
weigh-sum v w u (m ∷ ms) =
    simp (weigh-sum v w u ms, R.*ℤ-+ℤ, R.*ℤ_left_comm m.coef v)
    (R.+ℤ_interchange (m.coef *ℤ w m.key) (v *ℤ (m.coef *ℤ u m.key)) (weigh w ms) (v *ℤ weigh u ms))

module _ (d t : ℕ) where
  -- 1 for a key of the rest t in which d stands e times
  abbrev at : (e k : ℕ) → ℤ
  at e k = same e (exponent 8 d k) *ℤ same t (rest 8 d k)

  -- what a key adds to the n coefficients of the powers from e on
  abbrev units : (n e k : ℕ) → List ℤ
  units zero e k = []
  units (suc n) e k = at e k ∷ units n (suc e) k

  -- the n coefficients of the powers from e on
  abbrev powers : (n e : ℕ) (ms : List Summand) → List ℤ
  powers zero e ms = []
  powers (suc n) e ms = weigh (at e) ms ∷ powers n (suc e) ms

  length-powers : (n e : ℕ) (ms : List Summand) → length (powers n e ms) ≡ n
  length-powers zero e ms = refl
  length-powers (suc n) e ms = ap suc (length-powers n (suc e) ms)

  -- the polynomial in d is a sum over the keys
  powers-units : (v : ℤ) (n e : ℕ) (ms : List Summand) → eval v (powers n e ms) ≡ weigh (λ k. eval v (units n e k)) ms
  unfolding eval
  powers-units v zero e ms = sym (weigh_zero ms)
  powers-units v (suc n) e ms =
      ap (λ (z : ℤ). weigh (at e) ms +ℤ v *ℤ z) (powers-units v n (suc e) ms) ∙ sym (weigh-sum v (at e) (λ k. eval v (units n (suc e) k)) ms)

  -- a key in which d stands less often adds nothing
  units-less : (v : ℤ) (n e k : ℕ) → exponent 8 d k < e → eval v (units n e k) ≡ pos 0
  unfolding eval
  units-less v zero e k h = refl
  units-less v (suc n) e k h =
      simp (same_other e (exponent 8 d k) (λ q. omega arith), units-less v n (suc e) k (omega arith), I.zero-*ℤ, I.*ℤ-zero)

  -- a key adds its power of d where its rest is t
  units-eval : (v n e k x : ℕ) → exponent 8 d k ≡ e + x → x < n → eval (pos v) (units n e k) ≡ pos (v ^ x) *ℤ same t (rest 8 d k)
  unfolding eval
  units-eval v zero e k x p h = absurd (omega arith)
  units-eval v (suc n) e k zero p h =
      let q : e ≡ exponent 8 d k = omega arith in
      rw (same_self e (exponent 8 d k) q, units-less (pos v) n (suc e) k (omega arith), I.*ℤ-zero, I.+ℤ_idr, N.pow-zero)
  units-eval v (suc n) e k (suc x) p h =
      rw (same_other e (exponent 8 d k) (λ q. omega arith), units-eval v n (suc e) k x (omega arith) (omega arith), I.zero-*ℤ, I.+ℤ_idl, N.pow-succ' v x)
      (sym (R.*ℤ_assoc (pos v) (pos (v ^ x)) (same t (rest 8 d k))))

  -- the value of the polynomial in d at v is what is left of the keys of the rest t with v put for d
  powers-eval : (v n : ℕ) (ms : List Summand) → All (λ (m : Summand). exponent 8 d m.key ≤ n) ms
      → eval (pos v) (powers (suc n) 0 ms) ≡ weigh (same t) (substituted d v ms)
  powers-eval v n ms a =
      powers-units (pos v) (suc n) 0 ms
      ∙ agree (λ k. exponent 8 d k ≤ n) (λ k. eval (pos v) (units (suc n) 0 k)) (λ k. pos (v ^ exponent 8 d k) *ℤ same t (rest 8 d k))
      (λ k h. units-eval v (suc n) 0 k (exponent 8 d k) (omega arith) (omega arith)) ms a
      ∙ sym (substituted-weigh (same t) d v ms)

  powers_zero : (n e x : ℕ) (ms : List Summand) → x < n → AllZero (powers n e ms) → weigh (at (e + x)) ms ≡ pos 0
  powers_zero zero e x ms h a = absurd (omega arith)
  powers_zero (suc n) e zero ms h a = ap (λ (z : ℕ). weigh (at z) ms) (N.add-zero e) ∙ a.0
  powers_zero (suc n) e (suc x) ms h a = let q : e + suc x ≡ suc e + x = omega arith in ap (λ (z : ℕ). weigh (at z) ms) q ∙ powers_zero n (suc e) x ms (omega arith) a.1

  -- later keys are not the first
  later_zero : (k : ℕ) → 1 ≤ d → t ≡ rest 8 d k → Ordered d 8 k → (low : ℕ) (ms : List Summand) → k < low → Rising low ms → AllOrdered d ms → weigh (at (exponent 8 d k)) ms ≡ pos 0
  unfolding weigh
  later_zero k o e r low [] l s a = refl
  later_zero k o e r low (m ∷ ms) l s a =
      simp (apart, I.*ℤ-zero, I.+ℤ_idl) (later_zero k o e r (suc m.key) ms (omega (arith, s.0)) s.2 a.1)
    where
      go : (x y : Bool) → eqb (exponent 8 d k) (exponent 8 d m.key) ≡ x → eqb t (rest 8 d m.key) ≡ y → at (exponent 8 d k) m.key ≡ pos 0
      go false y p q = rw (same_other (exponent 8 d k) (exponent 8 d m.key) (eqb-false (exponent 8 d k) (exponent 8 d m.key) p)) (I.zero-*ℤ (same t (rest 8 d m.key)))
      go true false p q = rw (same_other t (rest 8 d m.key) (eqb-false t (rest 8 d m.key) q)) (I.*ℤ-zero (same (exponent 8 d k) (exponent 8 d m.key)))
      go true true p q =
          absurd (omega (arith, key_known d o 8 k m.key r a.0 (sym e ∙ eqb-true t (rest 8 d m.key) q) (eqb-true (exponent 8 d k) (exponent 8 d m.key) p), s.0))

      apart : at (exponent 8 d k) m.key ≡ pos 0
      apart = go (eqb (exponent 8 d k) (exponent 8 d m.key)) (eqb t (rest 8 d m.key)) refl refl

-- the first key's coefficient is among those of its powers
first_there : (d : ℕ) → 1 ≤ d → (m : Summand) (ms : List Summand) → Rising 0 (m ∷ ms) → AllOrdered d (m ∷ ms) → weigh (at d (rest 8 d m.key) (exponent 8 d m.key)) (m ∷ ms) ≡ m.coef
unfolding weigh
first_there d o m ms s a =
    let k = m.key in
    let e : at d (rest 8 d k) (exponent 8 d k) k ≡ pos 1 = rw (same_self (exponent 8 d k) (exponent 8 d k) refl, same_self (rest 8 d k) (rest 8 d k) refl) in
    let z = later_zero d (rest 8 d k) k o refl a.0 (suc k) ms (N.le_refl (suc k)) s.2 a.1 in
    (λ i. m.coef *ℤ e i +ℤ z i) ∙ I.+ℤ_idr (m.coef *ℤ pos 1) ∙ R.*ℤ-1 m.coef

-- without a summand the sum is 0
pub none_weighs : (w : ℕ → ℤ) (ms : List Summand) → is_some ms ≡ false → weigh w ms ≡ pos 0
unfolding weigh is_some
none_weighs w [] e = refl
none_weighs w (m ∷ ms) e = absurd (let z : ◌≡◌ {A = ℕ} 0 1 = cc in omega arith)

-- where no number below n leaves a summand, n does
pub survives : (d n : ℕ) → 1 ≤ d → (ms : List Summand) → is_some ms ≡ true → Rising 0 ms → AllOrdered d ms → All (λ (m : Summand). exponent 8 d m.key ≤ n) ms
    → ((v : ℕ) → v < n → is_some (substituted d v ms) ≡ false) → is_some (substituted d n ms) ≡ true
unfolding is_some
survives d n o [] ne s a x h = absurd (let z : ◌≡◌ {A = ℕ} 0 1 = cc in omega arith)
survives d n o (m ∷ ms) ne s a x h = go (is_some (substituted d n (m ∷ ms))) refl
  where
    t : ℕ
    t = rest 8 d m.key

    all : is_some (substituted d n (m ∷ ms)) ≡ false → (v : ℕ) → v < suc n → is_some (substituted d v (m ∷ ms)) ≡ false
    all e v l = elim (N.eq-or-lt_of_le (N.le_of_suc-le-suc l)) [ inl q ↦ ap (λ (u : ℕ). is_some (substituted d u (m ∷ ms))) q ∙ e | inr q ↦ h v q ]

    zeros : is_some (substituted d n (m ∷ ms)) ≡ false → AllZero (powers d t (suc n) 0 (m ∷ ms))
    zeros e =
        grid-points (suc n) (powers d t (suc n) 0 (m ∷ ms)) (N.le_of_eq (length-powers d t (suc n) 0 (m ∷ ms)))
        (λ v l. powers-eval d t v n (m ∷ ms) x ∙ none_weighs (same t) (substituted d v (m ∷ ms)) (all e v l))

    go : (b : Bool) → is_some (substituted d n (m ∷ ms)) ≡ b → b ≡ true
    go true e = refl
    go false e =
        absurd (s.1 (sym (first_there d o m ms s a) ∙ ap (λ (z : ℕ). weigh (at d t z) (m ∷ ms)) (sym (N.zero-add (exponent 8 d m.key)))
        ∙ powers_zero d t (suc n) 0 (exponent 8 d m.key) (m ∷ ms) (omega (arith, x.0)) (zeros e)))
