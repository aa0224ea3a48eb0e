-- Keys: what a variable put in and a variable taken out do to the value, to the order of digits, to sums over digits and to the order of keys.
-- Assumes nothing.
use mathlib.Core.Path.{◌≡◌, refl, sym, ◌∙◌, ap, subst}
use mathlib.Core.Bool.{Bool, true, false}
use mathlib.Core.Logic.{◌⊎◌, inl, inr}
use Prim.Native.Nat.{ℕ, zero, suc, ◌+◌, ◌*◌, ◌/◌, ◌%◌, ◌^◌, ◌≤◌, ◌<◌}
use native.Mathlib.Nat as N
use native.Mathlib.Omega.{arith}
use lib.Dec.{leb, eqb}
use borrow.Author.Tests.{eq-eqb, ne_eqb, eqb-true, eqb-false, lt-leb, leb-true, leb-false}
use lib.IntN.{ℤ, pos, ◌*ℤ◌}
use Rattle.algebra.specs.Integers as R
use Rattle.specification.specs.Results.{when◌then◌else◌}
use Rattle.polynomials.specs.Keys.{digit_value, key_value, placed, times_digit, goes, rest, exponent, From, Ordered, tally}

-- ════ digits

-- a digit goes, or it is neither 0 nor d
pub data Digit (d a : ℕ) : Type 0 where
  none : a ≡ 0 → Digit d a
  same : ¬ (a ≡ 0) → a ≡ d → Digit d a
  other : ¬ (a ≡ 0) → ¬ (a ≡ d) → Digit d a

-- every digit is one of the three
pub digit : (d a : ℕ) → Digit d a
digit d a = go (eqb a 0) (eqb a d) refl refl
  where
    go : (b c : Bool) → eqb a 0 ≡ b → eqb a d ≡ c → Digit d a
    go true c p q = none (eqb-true a 0 p)
    go false true p q = same (eqb-false a 0 p) (eqb-true a d q)
    go false false p q = other (eqb-false a 0 p) (eqb-false a d q)

module _ (d a : ℕ) where
  goes_none : a ≡ 0 → goes d a ≡ true
  unfolding goes
  goes_none e = rw (eq-eqb a 0 e)

  goes_same : ¬ (a ≡ 0) → a ≡ d → goes d a ≡ true
  unfolding goes
  goes_same h e = rw (ne_eqb a 0 h, eq-eqb a d e)

  goes_other : ¬ (a ≡ 0) → ¬ (a ≡ d) → goes d a ≡ false
  unfolding goes
  goes_other h g = rw (ne_eqb a 0 h, ne_eqb a d g)

module _ (n d k : ℕ) where
  -- one turn of `rest` and of `exponent`
  pub rest_none : k % 256 ≡ 0 → rest (suc n) d k ≡ 256 * rest n d (k / 256)
  unfolding rest
  rest_none e = rw (goes_none d (k % 256) e)

  pub rest_same : ¬ (k % 256 ≡ 0) → k % 256 ≡ d → rest (suc n) d k ≡ 256 * rest n d (k / 256)
  unfolding rest
  rest_same h e = rw (goes_same d (k % 256) h e)

  pub rest-other : ¬ (k % 256 ≡ 0) → ¬ (k % 256 ≡ d) → rest (suc n) d k ≡ k
  unfolding rest
  rest-other h g = rw (goes_other d (k % 256) h g)

  pub exponent_none : k % 256 ≡ 0 → exponent (suc n) d k ≡ exponent n d (k / 256)
  unfolding exponent
  exponent_none e = rw (eq-eqb (k % 256) 0 e)

  pub exponent_same : ¬ (k % 256 ≡ 0) → k % 256 ≡ d → exponent (suc n) d k ≡ suc (exponent n d (k / 256))
  unfolding exponent
  exponent_same h e = rw (ne_eqb (k % 256) 0 h, eq-eqb (k % 256) d e)

  pub exponent-other : ¬ (k % 256 ≡ 0) → ¬ (k % 256 ≡ d) → exponent (suc n) d k ≡ 0
  unfolding exponent
  exponent-other h g = rw (ne_eqb (k % 256) 0 h, ne_eqb (k % 256) d g)

-- ════ the key 0

-- nothing is taken out of it
pub rest_zero : (n d : ℕ) → rest n d 0 ≡ 0
unfolding rest
rest_zero zero d = refl
rest_zero (suc n) d = rest_none n d 0 refl ∙ ap (λ (z : ℕ). 256 * z) (rest_zero n d)

-- no variable stands in it
pub exponent_zero : (n d : ℕ) → exponent n d 0 ≡ 0
unfolding exponent
exponent_zero zero d = refl
exponent_zero (suc n) d = exponent_none n d 0 refl ∙ exponent_zero n d

-- its value is 1
pub value_zero : (σ : ℕ → ℤ) (n : ℕ) → key_value σ n 0 ≡ pos 1
unfolding key_value digit_value
value_zero σ zero = refl
value_zero σ (suc n) = R.one_*ℤ (key_value σ n 0) ∙ value_zero σ n

-- ════ a variable put in

module _ (σ : ℕ → ℤ) where
  -- the value of a key that ends with a digit
  key_value-digit : (n a q : ℕ) → a < 256 → key_value σ (suc n) (a + 256 * q) ≡ digit_value σ a *ℤ key_value σ n q
  unfolding key_value
  key_value-digit n a q h =
      let e : (a + 256 * q) % 256 ≡ a = omega arith in
      let g : (a + 256 * q) / 256 ≡ q = omega arith in
      rw (e, g)

  -- the value of digits with one put in
  placed_value : (n d k : ℕ) → d < 256 → key_value σ (suc n) (placed n d k) ≡ digit_value σ d *ℤ key_value σ n k
  unfolding placed key_value
  placed_value zero d k h = let e : d % 256 ≡ d = omega arith in rw e
  placed_value (suc n) d k h = go (leb d (k % 256)) (placed_value n d (k / 256) h)
    where
      go : (b : Bool) → key_value σ (suc n) (placed n d (k / 256)) ≡ digit_value σ d *ℤ key_value σ n (k / 256)
          → key_value σ (suc (suc n)) (when b then 256 * k + d else k % 256 + 256 * placed n d (k / 256)) ≡ digit_value σ d *ℤ key_value σ (suc n) k
      go true ih = ap (key_value σ (suc (suc n))) (N.add_comm (256 * k) d) ∙ key_value-digit (suc n) d k h
      go false ih =
          key_value-digit (suc n) (k % 256) (placed n d (k / 256)) (omega arith)
          ∙ ap (λ (z : ℤ). digit_value σ (k % 256) *ℤ z) ih
          ∙ R.*ℤ_left_comm (digit_value σ (k % 256)) (digit_value σ d) (key_value σ n (k / 256))

  -- the value of a key times a variable
  pub times_value : (d k : ℕ) → d < 256 → k % 256 ≡ 0 → key_value σ 8 (times_digit d k) ≡ digit_value σ d *ℤ key_value σ 8 k
  unfolding times_digit key_value digit_value
  times_value d k h e = go (eqb d 0) refl
    where
      low : key_value σ 8 k ≡ key_value σ 7 (k / 256)
      low = rw e (R.one_*ℤ (key_value σ 7 (k / 256)))

      go : (b : Bool) → eqb d 0 ≡ b → key_value σ 8 (when b then k else placed 7 d (k / 256)) ≡ digit_value σ d *ℤ key_value σ 8 k
      go true p = sym (ap (λ (z : ℕ). digit_value σ z *ℤ key_value σ 8 k) (eqb-true d 0 p) ∙ R.one_*ℤ (key_value σ 8 k))
      go false p = placed_value 7 d (k / 256) h ∙ ap (λ (z : ℤ). digit_value σ d *ℤ z) (sym low)

from_less : (low low' n k : ℕ) → low ≤ low' → From low' n k → From low n k
from_less low low' zero k h f = f
from_less low low' (suc n) k h f = (omega arith, f.1)

-- what is known of a key that begins with a digit
from_digit : (low n a q : ℕ) → a < 256 → low ≤ a → From a n q → From low (suc n) (a + 256 * q)
from_digit low n a q h l f =
    let e : (a + 256 * q) % 256 ≡ a = omega arith in
    let g : (a + 256 * q) / 256 ≡ q = omega arith in
    rw (e, g) (l, f)

placed-from : (low n d k : ℕ) → d < 256 → low ≤ d → From low n k → From low (suc n) (placed n d k)
unfolding placed
placed-from low zero d k h l f =
    let e : d % 256 ≡ d = omega arith in
    let g : d / 256 ≡ 0 = omega arith in
    rw (e, g) (l, refl)
placed-from low (suc n) d k h l f = go (leb d (k % 256)) refl (placed-from (k % 256) n d (k / 256) h)
  where
    go : (b : Bool) → leb d (k % 256) ≡ b → (k % 256 ≤ d → From (k % 256) n (k / 256) → From (k % 256) (suc n) (placed n d (k / 256)))
        → From low (suc (suc n)) (when b then 256 * k + d else k % 256 + 256 * placed n d (k / 256))
    go true p ih =
        subst (From low (suc (suc n))) (N.add_comm d (256 * k))
        (from_digit low (suc n) d k h l (leb-true d (k % 256) p, f.1))
    go false p ih = from_digit low (suc n) (k % 256) (placed n d (k / 256)) (omega arith) f.0 (ih (omega (arith, leb-false d (k % 256) p)) f.1)

placed_zero : (n d k : ℕ) → k % 256 ≡ 0 → 1 ≤ d → placed (suc n) d k ≡ 256 * placed n d (k / 256)
unfolding placed
placed_zero n d k e h = rw (lt-leb d (k % 256) (omega arith), e) (omega arith)

-- a digit put in keeps the order
placed-ordered : (low n d k : ℕ) → d < 256 → 1 ≤ low → low ≤ d → Ordered low n k → Ordered low (suc n) (placed n d k)
placed-ordered low zero d k h o l r = inr (placed-from low zero d k h l r)
placed-ordered low (suc n) d k h o l (inr r) = inr (placed-from low (suc n) d k h l r)
placed-ordered low (suc n) d k h o l (inl r) = go (placed-ordered low n d (k / 256) h o l r.1)
  where
    is : placed (suc n) d k ≡ 256 * placed n d (k / 256)
    is = placed_zero n d k r.0 (omega arith)

    go : Ordered low (suc n) (placed n d (k / 256)) → Ordered low (suc (suc n)) (placed (suc n) d k)
    go ih =
        let e : 256 * placed n d (k / 256) % 256 ≡ 0 = omega arith in
        let g : 256 * placed n d (k / 256) / 256 ≡ placed n d (k / 256) = omega arith in
        rw is (inl (e, rw g ih))

-- a key times a variable is in order
pub times-ordered : (d k : ℕ) → d < 256 → k % 256 ≡ 0 → Ordered 1 8 k → Ordered 1 8 (times_digit d k)
unfolding times_digit
times-ordered d k h e o = go (eqb d 0) refl o
  where
    go : (b : Bool) → eqb d 0 ≡ b → Ordered 1 8 k → Ordered 1 8 (when b then k else placed 7 d (k / 256))
    go true p o = o
    go false p (inl r) = placed-ordered 1 7 d (k / 256) h (N.le_refl 1) (omega (arith, eqb-false d 0 p)) r.1
    go false p (inr r) = absurd (omega (arith, r.0))

-- ════ sums over digits

module _ (f : ℕ → ℕ) where
  -- the sum of a key that ends with a digit
  tally-digit : (n a q : ℕ) → a < 256 → tally f (suc n) (a + 256 * q) ≡ f a + tally f n q
  unfolding tally
  tally-digit n a q h =
      let e : (a + 256 * q) % 256 ≡ a = omega arith in
      let g : (a + 256 * q) / 256 ≡ q = omega arith in
      rw (e, g)

  -- the sum of digits with one put in
  placed-tally : (n d k : ℕ) → d < 256 → tally f (suc n) (placed n d k) ≡ f d + tally f n k
  unfolding placed tally
  placed-tally zero d k h = let e : d % 256 ≡ d = omega arith in rw e
  placed-tally (suc n) d k h = go (leb d (k % 256)) (placed-tally n d (k / 256) h)
    where
      go : (b : Bool) → tally f (suc n) (placed n d (k / 256)) ≡ f d + tally f n (k / 256)
          → tally f (suc (suc n)) (when b then 256 * k + d else k % 256 + 256 * placed n d (k / 256)) ≡ f d + tally f (suc n) k
      go true ih = ap (tally f (suc (suc n))) (N.add_comm (256 * k) d) ∙ tally-digit (suc n) d k h
      go false ih = tally-digit (suc n) (k % 256) (placed n d (k / 256)) (omega arith) ∙ omega (arith, ih)

  -- the sum of a key times a variable
  pub times-tally : (d k : ℕ) → d < 256 → k % 256 ≡ 0 → f 0 ≡ 0 → tally f 8 (times_digit d k) ≡ f d + tally f 8 k
  unfolding times_digit tally
  times-tally d k h e z = go (eqb d 0) refl
    where
      low : tally f 8 k ≡ tally f 7 (k / 256)
      low = ap (λ (x : ℕ). f x + tally f 7 (k / 256)) e ∙ omega (arith, z)

      go : (b : Bool) → eqb d 0 ≡ b → tally f 8 (when b then k else placed 7 d (k / 256)) ≡ f d + tally f 8 k
      go true p = omega (arith, ap f (eqb-true d 0 p), z)
      go false p = placed-tally 7 d (k / 256) h ∙ omega (arith, low)

  -- the sum of a key is that of its rest and that of the digits that went
  pub rest-tally : (n d k : ℕ) → f 0 ≡ 0 → tally f n k ≡ exponent n d k * f d + tally f n (rest n d k)
  unfolding tally exponent rest
  rest-tally zero d k z = omega arith
  rest-tally (suc n) d k z = go (digit d (k % 256)) (rest-tally n d (k / 256) z)
    where
      shifted : tally f (suc n) (256 * rest n d (k / 256)) ≡ tally f n (rest n d (k / 256))
      shifted = ap (tally f (suc n)) (sym (N.zero-add (256 * rest n d (k / 256)))) ∙ tally-digit n 0 (rest n d (k / 256)) (omega arith) ∙ omega (arith, z)

      go : Digit d (k % 256) → tally f n (k / 256) ≡ exponent n d (k / 256) * f d + tally f n (rest n d (k / 256))
          → tally f (suc n) k ≡ exponent (suc n) d k * f d + tally f (suc n) (rest (suc n) d k)
      go (none e) ih = rw (rest_none n d k e, exponent_none n d k e) (omega (arith, ih, shifted, ap f e, z))
      go (same h e) ih = rw (rest_same n d k h e, exponent_same n d k h e) (omega (arith, ih, shifted, ap f e, N.add-mul 1 (exponent n d (k / 256)) (f d)))
      go (other h g) ih = rw (rest-other n d k h g, exponent-other n d k h g) (omega arith)

  -- in a key without zeros each digit counts
  pub from-tally : (low n k : ℕ) → ((x : ℕ) → low ≤ x → f x ≡ 1) → From low n k → tally f n k ≡ n
  unfolding tally
  from-tally low zero k h r = refl
  from-tally low (suc n) k h r = omega (arith, h (k % 256) r.0, from-tally (k % 256) n (k / 256) (λ x l. h x (omega arith)) r.1)

-- ════ a variable taken out: the value

module _ (σ : ℕ → ℤ) (d v : ℕ) (at : digit_value σ d ≡ pos v) where
  power-suc : (e : ℕ) → pos (v ^ suc e) ≡ pos v *ℤ pos (v ^ e)
  power-suc e = ap pos (N.pow-succ' v e)

  -- the value of a key is that of its rest times the power of the variable
  pub rest_value : (n k : ℕ) → key_value σ n k ≡ pos (v ^ exponent n d k) *ℤ key_value σ n (rest n d k)
  unfolding key_value digit_value exponent rest
  rest_value zero k = simp (N.pow-zero)
  rest_value (suc n) k = go (digit d (k % 256)) (rest_value n (k / 256))
    where
      shifted : key_value σ (suc n) (256 * rest n d (k / 256)) ≡ key_value σ n (rest n d (k / 256))
      shifted =
          ap (key_value σ (suc n)) (sym (N.zero-add (256 * rest n d (k / 256))))
          ∙ key_value-digit σ n 0 (rest n d (k / 256)) (omega arith)
          ∙ R.one_*ℤ (key_value σ n (rest n d (k / 256)))

      go : Digit d (k % 256) → key_value σ n (k / 256) ≡ pos (v ^ exponent n d (k / 256)) *ℤ key_value σ n (rest n d (k / 256))
          → key_value σ (suc n) k ≡ pos (v ^ exponent (suc n) d k) *ℤ key_value σ (suc n) (rest (suc n) d k)
      go (none e) ih = rw (rest_none n d k e, exponent_none n d k e, shifted, e) (R.one_*ℤ (key_value σ n (k / 256)) ∙ ih)
      go (same h e) ih =
          rw (rest_same n d k h e, exponent_same n d k h e, shifted, e, at, ih, power-suc) (sym (R.*ℤ_assoc (pos v) (pos (v ^ exponent n d (k / 256))) (key_value σ n (rest n d (k / 256)))))
      go (other h g) ih = rw (rest-other n d k h g, exponent-other n d k h g, N.pow-zero) (sym (R.one_*ℤ (key_value σ (suc n) k)))

-- ════ a variable taken out: the order

-- the rest is at most the key
rest-most : (n d k : ℕ) → rest n d k ≤ k
unfolding rest
rest-most zero d k = N.le_refl k
rest-most (suc n) d k = go (digit d (k % 256)) (rest-most n d (k / 256))
  where
    go : Digit d (k % 256) → rest n d (k / 256) ≤ k / 256 → rest (suc n) d k ≤ k
    go (none e) ih = rw (rest_none n d k e) (omega arith)
    go (same h e) ih = rw (rest_same n d k h e) (omega arith)
    go (other h g) ih = rw (rest-other n d k h g) (N.le_refl k)

-- it is the key, or it ends with 0
rest_end : (n d k : ℕ) → (rest n d k ≡ k) ⊎ (rest n d k % 256 ≡ 0)
unfolding rest
rest_end zero d k = inl refl
rest_end (suc n) d k = go (digit d (k % 256))
  where
    go : Digit d (k % 256) → (rest (suc n) d k ≡ k) ⊎ (rest (suc n) d k % 256 ≡ 0)
    go (none e) = inr (rw (rest_none n d k e) (omega arith))
    go (same h e) = inr (rw (rest_same n d k h e) (omega arith))
    go (other h g) = inl (rest-other n d k h g)

-- a key of digits above d is its own rest
from-rest : (low n d k : ℕ) → 1 ≤ low → d < low → From low n k → rest n d k ≡ k
unfolding rest
from-rest low zero d k o h f = refl
from-rest low (suc n) d k o h f = rest-other n d k (λ e. omega (arith, f.0)) (λ e. omega (arith, f.0))

module _ (d : ℕ) (o : 1 ≤ d) where
  -- the rest of a key in order from d on is in order from d + 1 on
  pub rest_from : (low n k : ℕ) → d ≤ low → From low n k → Ordered (suc d) n (rest n d k)
  unfolding rest
  rest_from low zero k h f = f
  rest_from low (suc n) k h f = go (digit d (k % 256)) (rest_from (k % 256) n (k / 256) (omega (arith, f.0)) f.1)
    where
      zeroed : Ordered (suc d) n (rest n d (k / 256)) → Ordered (suc d) (suc n) (256 * rest n d (k / 256))
      zeroed ih =
          let e : 256 * rest n d (k / 256) % 256 ≡ 0 = omega arith in
          let g : 256 * rest n d (k / 256) / 256 ≡ rest n d (k / 256) = omega arith in
          inl (e, rw g ih)

      go : Digit d (k % 256) → Ordered (suc d) n (rest n d (k / 256)) → Ordered (suc d) (suc n) (rest (suc n) d k)
      go (none e) ih = rw (rest_none n d k e) (zeroed ih)
      go (same p e) ih = rw (rest_same n d k p e) (zeroed ih)
      go (other p g) ih = rw (rest-other n d k p g) (inr (omega (arith, f.0), f.1))

  -- the same of a key with zeros at its end
  pub rest_ordered : (n k : ℕ) → Ordered d n k → Ordered (suc d) n (rest n d k)
  unfolding rest
  rest_ordered zero k r = r
  rest_ordered (suc n) k (inr f) = rest_from d (suc n) k (N.le_refl d) f
  rest_ordered (suc n) k (inl r) =
      let e : 256 * rest n d (k / 256) % 256 ≡ 0 = omega arith in
      let g : 256 * rest n d (k / 256) / 256 ≡ rest n d (k / 256) = omega arith in
      rw (rest_none n d k r.0) (inl (e, rw g (rest_ordered n (k / 256) r.1)))

  -- what is in order without its lowest digit
  ordered-tail : (n k : ℕ) → Ordered d (suc n) k → Ordered d n (k / 256)
  ordered-tail n k (inl r) = r.1
  ordered-tail n k (inr f) = go n (k / 256) (from_less d (k % 256) n (k / 256) f.0 f.1)
    where
      go : (n q : ℕ) → From d n q → Ordered d n q
      go zero q f = f
      go (suc n) q f = inr f

  -- a lowest digit that does not go is above d, and then no digit of the key goes
  ordered-above : (n k : ℕ) → Ordered d (suc n) k → ¬ (k % 256 ≡ 0) → ¬ (k % 256 ≡ d) → (d < k % 256) × From (k % 256) n (k / 256)
  ordered-above n k (inl r) h g = absurd (h r.0)
  ordered-above n k (inr f) h g = (omega (arith, f.0), f.1)

  -- taking d out keeps the order of keys
  pub rest-summand : (n k l : ℕ) → Ordered d n k → Ordered d n l → k ≤ l → rest n d k ≤ rest n d l
  unfolding rest
  rest-summand zero k l p q h = h
  rest-summand (suc n) k l p q h = go (digit d (k % 256)) (digit d (l % 256)) (rest-summand n (k / 256) (l / 256) (ordered-tail n k p) (ordered-tail n l q) (omega arith))
    where
      both : rest (suc n) d k ≡ 256 * rest n d (k / 256) → rest (suc n) d l ≡ 256 * rest n d (l / 256) → rest n d (k / 256) ≤ rest n d (l / 256) → rest (suc n) d k ≤ rest (suc n) d l
      both e g ih = rw (e, g) (omega arith)

      first : rest (suc n) d k ≡ 256 * rest n d (k / 256) → rest (suc n) d l ≡ l → rest (suc n) d k ≤ rest (suc n) d l
      first e g = rw (e, g) (omega (arith, rest-most n d (k / 256)))

      -- k ends above d and l does not, so that k without its lowest digit is less than l without
      second : d < k % 256 → From (k % 256) n (k / 256) → rest (suc n) d k ≡ k → l % 256 ≤ d → rest (suc n) d l ≡ 256 * rest n d (l / 256)
          → rest n d (k / 256) ≤ rest n d (l / 256) → rest (suc n) d k ≤ rest (suc n) d l
      second a f e b g ih =
          rw (e, g) (omega (arith, strictly n (k / 256) (l / 256) (k % 256) a f (omega arith) (from-rest (k % 256) n d (k / 256) (omega arith) a f) ih (rest_end n d (l / 256))))
        where
          strictly : (n p q a : ℕ) → d < a → From a n p → p < q → rest n d p ≡ p → rest n d p ≤ rest n d q → (rest n d q ≡ q) ⊎ (rest n d q % 256 ≡ 0) → p < rest n d q
          strictly n p q a h f l e i (inl z) = omega arith
          strictly zero p q a h f l e i (inr z) = omega arith
          strictly (suc n) p q a h f l e i (inr z) = omega (arith, f.0)

      go : Digit d (k % 256) → Digit d (l % 256) → rest n d (k / 256) ≤ rest n d (l / 256) → rest (suc n) d k ≤ rest (suc n) d l
      go (none a) (none b) ih = both (rest_none n d k a) (rest_none n d l b) ih
      go (none a) (same b b') ih = both (rest_none n d k a) (rest_same n d l b b') ih
      go (same a a') (none b) ih = both (rest_same n d k a a') (rest_none n d l b) ih
      go (same a a') (same b b') ih = both (rest_same n d k a a') (rest_same n d l b b') ih
      go (none a) (other b b') ih = first (rest_none n d k a) (rest-other n d l b b')
      go (same a a') (other b b') ih = first (rest_same n d k a a') (rest-other n d l b b')
      go (other a a') (none b) ih =
          let w = ordered-above n k p a a' in second w.0 w.1 (rest-other n d k a a') (omega arith) (rest_none n d l b) ih
      go (other a a') (same b b') ih =
          let w = ordered-above n k p a a' in second w.0 w.1 (rest-other n d k a a') (omega arith) (rest_same n d l b b') ih
      go (other a a') (other b b') ih = rw (rest-other n d k a a', rest-other n d l b b') h

  -- no key has more d than one without zeros and with the same rest
  exponent-most : (low n k l : ℕ) → d ≤ low → From low n k → rest n d k ≡ rest n d l → exponent n d l ≤ exponent n d k
  unfolding rest exponent
  exponent-most low zero k l h f e = N.le_refl 0
  exponent-most low (suc n) k l h f e =
      go (digit d (k % 256)) (digit d (l % 256)) (exponent-most (k % 256) n (k / 256) (l / 256) (omega (arith, f.0)) f.1)
    where
      go : Digit d (k % 256) → Digit d (l % 256) → (rest n d (k / 256) ≡ rest n d (l / 256) → exponent n d (l / 256) ≤ exponent n d (k / 256))
          → exponent (suc n) d l ≤ exponent (suc n) d k
      go (none a) b ih = absurd (omega (arith, f.0))
      go (same a a') (other b b') ih = rw (exponent-other n d l b b') (omega arith)
      go (other a a') (other b b') ih = rw (exponent-other n d l b b') (omega arith)
      go (same a a') (none b) ih =
          rw (exponent_none n d l b, exponent_same n d k a a')
          (omega (arith, ih (omega (arith, e, rest_none n d l b, rest_same n d k a a'))))
      go (same a a') (same b b') ih =
          rw (exponent_same n d l b b', exponent_same n d k a a')
          (omega (arith, ih (omega (arith, e, rest_same n d l b b', rest_same n d k a a'))))
      go (other a a') (none b) ih = absurd (omega (arith, e, rest_none n d l b, rest-other n d k a a'))
      go (other a a') (same b b') ih = absurd (omega (arith, e, rest_same n d l b b', rest-other n d k a a'))

  -- a key is known by its rest and how often d stands in it
  pub key_known : (n k l : ℕ) → Ordered d n k → Ordered d n l → rest n d k ≡ rest n d l → exponent n d k ≡ exponent n d l → k ≡ l
  unfolding rest exponent
  key_known zero k l p q e x = e
  key_known (suc n) k l p q e x =
      go (digit d (k % 256)) (digit d (l % 256)) p q (key_known n (k / 256) (l / 256) (ordered-tail n k p) (ordered-tail n l q))
    where
      -- d stands at the end of k, and 0 at that of l
      less : (k l : ℕ) → ¬ (k % 256 ≡ 0) → k % 256 ≡ d → l % 256 ≡ 0 → Ordered d (suc n) k → rest (suc n) d k ≡ rest (suc n) d l → exponent (suc n) d k ≡ exponent (suc n) d l → ⊥
      less k l a a' b (inl r) e x = a r.0
      less k l a a' b (inr f) e x =
          omega (arith, exponent-most (k % 256) n (k / 256) (l / 256) f.0 f.1 (omega (arith, e, rest_same n d k a a', rest_none n d l b)), x, exponent_same n d k a a', exponent_none n d l b)

      go : Digit d (k % 256) → Digit d (l % 256) → Ordered d (suc n) k → Ordered d (suc n) l
          → (rest n d (k / 256) ≡ rest n d (l / 256) → exponent n d (k / 256) ≡ exponent n d (l / 256) → k / 256 ≡ l / 256) → k ≡ l
      go (none a) (none b) p q ih =
          let z = ih (omega (arith, e, rest_none n d k a, rest_none n d l b)) (omega (arith, x, exponent_none n d k a, exponent_none n d l b)) in omega arith
      go (same a a') (same b b') p q ih =
          let z = ih (omega (arith, e, rest_same n d k a a', rest_same n d l b b')) (omega (arith, x, exponent_same n d k a a', exponent_same n d l b b')) in omega arith
      go (other a a') (other b b') p q ih = omega (arith, e, rest-other n d k a a', rest-other n d l b b')
      go (same a a') (none b) p q ih = absurd (less k l a a' b p e x)
      go (none a) (same b b') p q ih = absurd (less l k b b' a q (sym e) (sym x))
      go (none a) (other b b') p q ih = absurd (omega (arith, e, rest_none n d k a, rest-other n d l b b'))
      go (same a a') (other b b') p q ih = absurd (omega (arith, e, rest_same n d k a a', rest-other n d l b b'))
      go (other a a') (none b) p q ih = absurd (omega (arith, e, rest-other n d k a a', rest_none n d l b))
      go (other a a') (same b b') p q ih = absurd (omega (arith, e, rest-other n d k a a', rest_same n d l b b'))
