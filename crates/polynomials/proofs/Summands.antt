-- Lists of summands: adding like neighbours and putting a number for a variable keep values, order, bounds, and what holds of keys.
-- Assumes nothing.
use mathlib.Core.Path.{◌≡◌, refl, sym, ◌∙◌, ap}
use mathlib.Core.Bool.{Bool, true, false}
use mathlib.Core.List.{List, [], ◌∷◌, ◌++◌, map}
use mathlib.Core.Logic.{◌⊎◌, inl, inr}
use Prim.Native.Nat.{ℕ, zero, suc, ◌+◌, ◌*◌, ◌^◌, ◌≤◌}
use native.Mathlib.Nat as N
use native.Mathlib.Omega.{arith}
use lib.Dec.{eqb}
use borrow.Author.Tests.{eqb-true, eqb-false}
use lib.IntN.{ℤ, pos, negsuc, nat_abs, ◌+ℤ◌, ◌*ℤ◌}
use lib.IntN as I
use Rattle.algebra.specs.Integers.{NonZero, pos-nonzero, negsuc-nonzero, nat_abs_+ℤ, nat_abs_*ℤ}
use Rattle.algebra.specs.Integers as R
use Rattle.algebra.specs.Conditions.{eq-or-ne}
use Rattle.specification.specs.Results.{when◌then◌else◌}
use Rattle.specification.specs.Terms.{is_zero}
use Rattle.theory.specs.Elements.{All, all_map}
use Rattle.polynomials.specs.Keys.{digit_value, key_value, rest, exponent, Ordered}
use Rattle.polynomials.specs.Summands.{Summand, weigh, total, size, mass, kept, onto, like_added, put_for, substituted, Weakly, Rising}
use Rattle.polynomials.proofs.Keys.{rest_value, rest-summand, rest_ordered}

-- ════ a summand in front, unless its coefficient is 0

-- by the coefficient: 0, or not
data Coef (c : ℤ) : Type 0 where
  is_null : c ≡ pos 0 → is_zero c ≡ true → Coef c
  is_not : NonZero c → is_zero c ≡ false → Coef c

coefficient : (c : ℤ) → Coef c
unfolding is_zero
coefficient (pos zero) = is_null refl refl
coefficient (pos (suc n)) = is_not (pos-nonzero n) refl
coefficient (negsuc n) = is_not (negsuc-nonzero n) refl

module _ (m : Summand) (ms : List Summand) where
  -- a coefficient 0 is dropped
  pub kept-null : is_zero m.coef ≡ true → kept m ms ≡ ms
  unfolding kept
  kept-null e = rw e

  -- any other stands
  pub kept-not : is_zero m.coef ≡ false → kept m ms ≡ m ∷ ms
  unfolding kept
  kept-not e = rw e

-- one turn of `onto`
module _ (m r : Summand) (rs : List Summand) where
  pub onto-like : m.key ≡ r.key → onto m (r ∷ rs) ≡ onto (record { key = m.key; coef = m.coef +ℤ r.coef }) rs
  unfolding onto
  onto-like e = go (eqb m.key r.key) (λ h. eqb-false m.key r.key h e)
    where
      go : (b : Bool) → (b ≡ false → ⊥)
          → (when b then onto (record { key = m.key; coef = m.coef +ℤ r.coef }) rs else kept m (onto r rs)) ≡ onto (record { key = m.key; coef = m.coef +ℤ r.coef }) rs
      go true h = refl
      go false h = absurd (h refl)

  -- another key: the one in front is kept
  pub onto-apart : ¬ (m.key ≡ r.key) → onto m (r ∷ rs) ≡ kept m (onto r rs)
  unfolding onto
  onto-apart e = go (eqb m.key r.key) (λ h. e (eqb-true m.key r.key h))
    where
      go : (b : Bool) → (b ≡ true → ⊥) → (when b then onto (record { key = m.key; coef = m.coef +ℤ r.coef }) rs else kept m (onto r rs)) ≡ kept m (onto r rs)
      go true h = absurd (h refl)
      go false h = refl

-- ════ values

module _ (w : ℕ → ℤ) where
  -- neither changes the sum
  kept-weigh : (m : Summand) (ms : List Summand) → weigh w (kept m ms) ≡ m.coef *ℤ w m.key +ℤ weigh w ms
  unfolding weigh
  kept-weigh m ms = go (coefficient m.coef)
    where
      go : Coef m.coef → weigh w (kept m ms) ≡ m.coef *ℤ w m.key +ℤ weigh w ms
      go (is_null e z) = rw (kept-null m ms z, e, I.zero-*ℤ) (sym (I.+ℤ_idl (weigh w ms)))
      go (is_not h z) = rw (kept-not m ms z)

  onto-weigh : (m : Summand) (rs : List Summand) → weigh w (onto m rs) ≡ m.coef *ℤ w m.key +ℤ weigh w rs
  unfolding onto weigh
  onto-weigh m [] = kept-weigh m []
  onto-weigh m (r ∷ rs) =
      go (eq-or-ne m.key r.key) (onto-weigh (record { key = m.key; coef = m.coef +ℤ r.coef }) rs) (onto-weigh r rs)
    where
      go : (m.key ≡ r.key) ⊎ ¬ (m.key ≡ r.key)
          → weigh w (onto (record { key = m.key; coef = m.coef +ℤ r.coef }) rs) ≡ (m.coef +ℤ r.coef) *ℤ w m.key +ℤ weigh w rs
          → weigh w (onto r rs) ≡ r.coef *ℤ w r.key +ℤ weigh w rs
          → weigh w (onto m (r ∷ rs)) ≡ m.coef *ℤ w m.key +ℤ (r.coef *ℤ w r.key +ℤ weigh w rs)
      go (inl e) p q = ap (weigh w) (onto-like m r rs e) ∙ p ∙ rw (R.+ℤ-*ℤ, I.+ℤ_assoc, e)
      go (inr h) p q = ap (weigh w) (onto-apart m r rs h) ∙ kept-weigh m (onto r rs) ∙ ap (λ (z : ℤ). m.coef *ℤ w m.key +ℤ z) q

  -- adding like neighbours keeps every weighted sum
  pub like-weigh : (ms : List Summand) → weigh w (like_added ms) ≡ weigh w ms
  unfolding like_added weigh
  like-weigh [] = refl
  like-weigh (m ∷ ms) = onto-weigh m ms

  -- a number put for a variable changes the weights
  pub reduced-weigh : (d v : ℕ) (ms : List Summand) → weigh w (map (put_for d v) ms) ≡ weigh (λ k. pos (v ^ exponent 8 d k) *ℤ w (rest 8 d k)) ms
  unfolding weigh put_for
  reduced-weigh d v [] = refl
  reduced-weigh d v (m ∷ ms) =
      λ i. R.*ℤ_assoc m.coef (pos (v ^ exponent 8 d m.key)) (w (rest 8 d m.key)) i +ℤ reduced-weigh d v ms i

  -- also with like neighbours added
  pub substituted-weigh : (d v : ℕ) (ms : List Summand) → weigh w (substituted d v ms) ≡ weigh (λ k. pos (v ^ exponent 8 d k) *ℤ w (rest 8 d k)) ms
  unfolding substituted
  substituted-weigh d v ms = like-weigh (map (put_for d v) ms) ∙ reduced-weigh d v ms

-- weights that agree
pub weigh-agree : (w u : ℕ → ℤ) → ((k : ℕ) → w k ≡ u k) → (ms : List Summand) → weigh w ms ≡ weigh u ms
unfolding weigh
weigh-agree w u h [] = refl
weigh-agree w u h (m ∷ ms) = λ i. m.coef *ℤ h m.key i +ℤ weigh-agree w u h ms i

-- with the value of its variable put for a digit nothing changes
pub substituted_value : (σ : ℕ → ℤ) (d v : ℕ) → digit_value σ d ≡ pos v → (ms : List Summand) → total σ (substituted d v ms) ≡ total σ ms
substituted_value σ d v e ms =
    substituted-weigh (key_value σ 8) d v ms
    ∙ weigh-agree (λ k. pos (v ^ exponent 8 d k) *ℤ key_value σ 8 (rest 8 d k)) (key_value σ 8) (λ k. sym (rest_value σ d v e 8 k)) ms

-- the sum over two lists joined
pub weigh-append : (w : ℕ → ℤ) (ms ns : List Summand) → weigh w (ms ++ ns) ≡ weigh w ms +ℤ weigh w ns
unfolding weigh
weigh-append w [] ns = sym (I.+ℤ_idl (weigh w ns))
weigh-append w (m ∷ ms) ns = ap (λ (z : ℤ). m.coef *ℤ w m.key +ℤ z) (weigh-append w ms ns) ∙ sym (I.+ℤ_assoc (m.coef *ℤ w m.key) (weigh w ms) (weigh w ns))

-- ════ sizes

module _ (w : ℕ → ℕ) where
  kept-size : (m : Summand) (ms : List Summand) → size w (kept m ms) ≤ nat_abs m.coef * w m.key + size w ms
  unfolding size
  kept-size m ms = go (coefficient m.coef)
    where
      go : Coef m.coef → size w (kept m ms) ≤ nat_abs m.coef * w m.key + size w ms
      go (is_null e z) = rw (kept-null m ms z) (omega arith)
      go (is_not h z) = rw (kept-not m ms z) (N.le_refl (size w (m ∷ ms)))

  onto-size : (m : Summand) (rs : List Summand) → size w (onto m rs) ≤ nat_abs m.coef * w m.key + size w rs
  unfolding onto size
  onto-size m [] = kept-size m []
  onto-size m (r ∷ rs) =
      go (eq-or-ne m.key r.key) (onto-size (record { key = m.key; coef = m.coef +ℤ r.coef }) rs) (onto-size r rs)
    where
      go : (m.key ≡ r.key) ⊎ ¬ (m.key ≡ r.key)
          → size w (onto (record { key = m.key; coef = m.coef +ℤ r.coef }) rs) ≤ nat_abs (m.coef +ℤ r.coef) * w m.key + size w rs
          → size w (onto r rs) ≤ nat_abs r.coef * w r.key + size w rs
          → size w (onto m (r ∷ rs)) ≤ nat_abs m.coef * w m.key + (nat_abs r.coef * w r.key + size w rs)
      go (inl e) p q =
          rw (onto-like m r rs e)
          (omega (arith, p, N.mul-le-mul_right (w m.key) (nat_abs_+ℤ m.coef r.coef), N.add-mul (nat_abs m.coef) (nat_abs r.coef) (w m.key), ap (λ (k : ℕ). nat_abs r.coef * w k) e))
      go (inr h) p q = rw (onto-apart m r rs h) (omega (arith, kept-size m (onto r rs), q))

  -- adding like neighbours does not add to the size
  pub like-size : (ms : List Summand) → size w (like_added ms) ≤ size w ms
  unfolding like_added size
  like-size [] = N.le_refl 0
  like-size (m ∷ ms) = onto-size m ms

  -- nor does a number for a variable where the weight of the variable is not below the number
  pub reduced-size : (d v : ℕ) → ((k : ℕ) → v ^ exponent 8 d k * w (rest 8 d k) ≤ w k) → (ms : List Summand) → size w (map (put_for d v) ms) ≤ size w ms
  unfolding size put_for
  reduced-size d v h [] = N.le_refl 0
  reduced-size d v h (m ∷ ms) =
      omega (
        arith,
        reduced-size d v h ms,
        ap (λ (z : ℕ). z * w (rest 8 d m.key)) (nat_abs_*ℤ m.coef (pos (v ^ exponent 8 d m.key))),
        N.mul_assoc (nat_abs m.coef) (v ^ exponent 8 d m.key) (w (rest 8 d m.key)),
        N.mul-le-mul_left (nat_abs m.coef) (h m.key),
      )

  -- the mass is not above the size where no weight is 0
  pub mass-size : ((k : ℕ) → 1 ≤ w k) → (ms : List Summand) → mass ms ≤ size w ms
  unfolding size
  mass-size h [] = N.le_refl 0
  mass-size h (m ∷ ms) = omega (arith, mass-size h ms, N.mul-le-mul_left (nat_abs m.coef) (h m.key))

  -- the size of two lists joined
  pub size-append : (ms ns : List Summand) → size w (ms ++ ns) ≡ size w ms + size w ns
  unfolding size
  size-append [] ns = omega arith
  size-append (m ∷ ms) ns = omega (arith, size-append ms ns)

-- ════ the order

onto-rising : (low : ℕ) (m : Summand) (rs : List Summand) → low ≤ m.key → Weakly m.key rs → Rising low (onto m rs)
unfolding onto
onto-rising low m [] l s = go (coefficient m.coef)
  where
    go : Coef m.coef → Rising low (kept m [])
    go (is_null e z) = rw (kept-null m [] z) tt
    go (is_not h z) = rw (kept-not m [] z) (l, h, tt)
onto-rising low m (r ∷ rs) l s =
    go (eq-or-ne m.key r.key) (coefficient m.coef)
    (onto-rising low (record { key = m.key; coef = m.coef +ℤ r.coef }) rs l)
    (λ low' h. onto-rising low' r rs h s.1)
  where
    go : (m.key ≡ r.key) ⊎ ¬ (m.key ≡ r.key) → Coef m.coef
        → (Weakly m.key rs → Rising low (onto (record { key = m.key; coef = m.coef +ℤ r.coef }) rs))
        → ((low' : ℕ) → low' ≤ r.key → Rising low' (onto r rs)) → Rising low (onto m (r ∷ rs))
    go (inl e) c p q = rw (onto-like m r rs e) (p (rw e s.1))
    go (inr h) (is_null e z) p q = rw (onto-apart m r rs h, kept-null m (onto r rs) z) (q low (omega (arith, s.0)))
    go (inr h) (is_not g z) p q = rw (onto-apart m r rs h, kept-not m (onto r rs) z) (l, g, q (suc m.key) (elim (N.eq-or-lt_of_le s.0) [ inl e ↦ absurd (h e) | inr l ↦ l ]))

-- like neighbours added in keys that ascend, the keys ascend strictly
pub like-rising : (ms : List Summand) → Weakly 0 ms → Rising 0 (like_added ms)
unfolding like_added
like-rising [] s = tt
like-rising (m ∷ ms) s = onto-rising 0 m ms s.0 s.1

-- the keys are in order from the digit d on
abbrev pub AllOrdered : (d : ℕ) (ms : List Summand) → Type 0
AllOrdered d ms = All (λ (m : Summand). Ordered d 8 m.key) ms

reduced_weakly : (d v : ℕ) → 1 ≤ d → (low : ℕ) (ms : List Summand) → Ordered d 8 low → AllOrdered d ms → Rising (suc low) ms → Weakly (rest 8 d low) (map (put_for d v) ms)
unfolding put_for
reduced_weakly d v o low [] r a s = tt
reduced_weakly d v o low (m ∷ ms) r a s =
    (rest-summand d o 8 low m.key r a.0 (omega (arith, s.0)), reduced_weakly d v o m.key ms a.0 a.1 s.2)

-- putting a number for the lowest variable keeps the order
pub substituted-rising : (d v : ℕ) → 1 ≤ d → (ms : List Summand) → AllOrdered d ms → Rising 0 ms → Rising 0 (substituted d v ms)
unfolding substituted put_for
substituted-rising d v o [] a s = like-rising [] tt
substituted-rising d v o (m ∷ ms) a s = like-rising (map (put_for d v) (m ∷ ms)) (omega arith, reduced_weakly d v o m.key ms a.0 a.1 s.2)

-- ════ what holds of keys

module _ (P : ℕ → Type 0) where
  -- P holds of every key
  abbrev pub Keys : List Summand → Type 0
  Keys ms = All (λ (m : Summand). P m.key) ms

  kept-keys : (m : Summand) (ms : List Summand) → P m.key → Keys ms → Keys (kept m ms)
  kept-keys m ms h a = go (coefficient m.coef)
    where
      go : Coef m.coef → Keys (kept m ms)
      go (is_null e z) = rw (kept-null m ms z) a
      go (is_not g z) = rw (kept-not m ms z) (h, a)

  onto-keys : (m : Summand) (rs : List Summand) → P m.key → Keys rs → Keys (onto m rs)
  unfolding onto
  onto-keys m [] h a = kept-keys m [] h tt
  onto-keys m (r ∷ rs) h a =
      go (eq-or-ne m.key r.key) (onto-keys (record { key = m.key; coef = m.coef +ℤ r.coef }) rs h a.1) (onto-keys r rs a.0 a.1)
    where
      go : (m.key ≡ r.key) ⊎ ¬ (m.key ≡ r.key) → Keys (onto (record { key = m.key; coef = m.coef +ℤ r.coef }) rs) → Keys (onto r rs) → Keys (onto m (r ∷ rs))
      go (inl e) p q = rw (onto-like m r rs e) p
      go (inr e) p q = rw (onto-apart m r rs e) (kept-keys m (onto r rs) h q)

  -- adding like neighbours brings in no key
  pub like-keys : (ms : List Summand) → Keys ms → Keys (like_added ms)
  unfolding like_added
  like-keys [] a = tt
  like-keys (m ∷ ms) a = onto-keys m ms a.0 a.1

-- what holds of the rest of each key holds afterwards
pub substituted-keys : (P Q : ℕ → Type 0) (d v : ℕ) → ((k : ℕ) → P k → Q (rest 8 d k)) → (ms : List Summand) → Keys P ms → Keys Q (substituted d v ms)
unfolding substituted put_for
substituted-keys P Q d v h ms a =
    like-keys Q (map (put_for d v) ms) (all_map (λ (m : Summand). P m.key) (λ (m : Summand). Q m.key) (put_for d v) (λ m p. h m.key p) ms a)

-- the keys are then in order from the next digit on
pub substituted-ordered : (d v : ℕ) → 1 ≤ d → (ms : List Summand) → AllOrdered d ms → AllOrdered (suc d) (substituted d v ms)
substituted-ordered d v o ms a = substituted-keys (Ordered d 8) (Ordered (suc d) 8) d v (rest_ordered d o 8) ms a
