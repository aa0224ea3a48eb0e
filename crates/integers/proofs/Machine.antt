-- Signed numbers of 64 bits as a need has them: a local holds bits, so an operand z is read back as `to_z w64 (of_z w64 z)`.
-- Assumes nothing.
use mathlib.Core.Path.{◌≡◌, refl, ap, sym, ◌∙◌}
use mathlib.Core.Bool.{Bool, true, false, true≢false}
use Prim.Native.Nat.{ℕ, zero, suc, ◌^◌, ◌<◌, ◌≤◌}
use native.Mathlib.Omega.{arith}
use lib.IntN.{ℤ, pos, negsuc, nat_abs, neg_ℤ, ◌-ℤ◌, +ℤ_idl}
use lib.Signed.{lt_z, le_z}
use lib.Dec.{eqb, eqb-suc-zero, leb-suc-suc}
use borrow.Author.Tests.{le-ltb, ltb-true, eq-eqb, ne_eqb, eqb-true, eqb-false}
use mir.Syntax.{w64}
use mir.Val.{SFits, to_z, of_z}
use mir.ValLaws.{to_z-of_z}
use Rattle.specification.specs.Terms.{is_zero, coef_within}
use Rattle.specification.specs.Records.{is_one}
use Rattle.specification.specs.Logs.{same_coef}
use Rattle.algebra.specs.Integers.{sfits-nat_abs, sfits-diff}
use Rattle.integers.specs.Arithmetic.{is_negative}

-- ════ reading back

-- what is read back of z
abbrev pub back : ℤ → ℤ
back z = to_z w64 (of_z w64 z)

-- it is z, where z fits
pub back_is : {z : ℤ} → SFits w64 z → back z ≡ z
back_is {z} h = to_z-of_z w64 z h

-- a number that fits is read back
pub fits_back : (z : ℤ) → nat_abs z < 2 ^ 63 → back z ≡ z
fits_back z h = back_is (sfits-nat_abs z h)

-- so is 1, 0 and −1
pub unit-back : (z : ℤ) → nat_abs z ≤ 1 → back z ≡ z
unit-back z h = fits_back z (omega arith)

-- a coefficient within is read back as it is
pub size-asks : (z : ℤ) → nat_abs z ≤ 2147483647 → nat_abs (back z) < 2 ^ 63
size-asks z h = rw (back_is (sfits-nat_abs z (omega arith))) (omega arith)

-- an operation on two numbers that fit, as its result does
module _ (op : ℤ → ℤ → ℤ) {a b : ℤ} (ha : SFits w64 a) (hb : SFits w64 b) (h : SFits w64 (op a b)) where
  -- on the operands read back its result fits
  pub asks : SFits w64 (op (back a) (back b))
  asks = rw (back_is ha, back_is hb) h

  -- and read back it is the result on the operands themselves
  pub gives : back (op (back a) (back b)) ≡ op a b
  gives = rw (back_is ha, back_is hb) (back_is h)

-- a literal below 2 ^ 63 fits
pub literal-fits : (n : ℕ) → n < 2 ^ 63 → SFits w64 (pos n)
literal-fits n h = record { sfits = h }

-- the negative is 0 − a, which fits
pub negative-asks : {a : ℤ} → SFits w64 a → nat_abs a < 2 ^ 63 → SFits w64 (pos 0 -ℤ back a)
negative-asks {a} f h = asks ◌-ℤ◌ (literal-fits 0 (omega arith)) f (sfits-diff (pos 0) a (omega arith))

-- and which read back is the negative
pub negative-gives : {a : ℤ} → SFits w64 a → nat_abs a < 2 ^ 63 → back (pos 0 -ℤ back a) ≡ neg_ℤ a
negative-gives {a} f h = gives ◌-ℤ◌ (literal-fits 0 (omega arith)) f (sfits-diff (pos 0) a (omega arith)) ∙ +ℤ_idl (neg_ℤ a)

-- ════ tests

-- the bits are those of 0 where the number is 0
pub bits_of_zero : (z : ℤ) → SFits w64 z → eqb (of_z w64 z) 0 ≡ is_zero z
unfolding is_zero
bits_of_zero (pos zero) f = refl
bits_of_zero (pos (suc n)) f = eqb-suc-zero n
bits_of_zero (negsuc n) f = ne_eqb (of_z w64 (negsuc n)) 0 (λ e. omega arith)

-- the bits are those of 1 where the number is 1
pub bits_of_one : (z : ℤ) → SFits w64 z → eqb (of_z w64 z) 1 ≡ is_one z
unfolding is_one
bits_of_one (pos zero) f = refl
bits_of_one (pos (suc zero)) f = refl
bits_of_one (pos (suc (suc n))) f = ne_eqb (suc (suc n)) 1 (λ e. omega arith)
bits_of_one (negsuc n) f = ne_eqb (of_z w64 (negsuc n)) 1 (λ e. omega arith)

-- equal bits are those of equal numbers
pub bits_of-equal : (y z : ℤ) → SFits w64 y → SFits w64 z → eqb (of_z w64 y) (of_z w64 z) ≡ same_coef y z
unfolding same_coef
bits_of-equal (pos m) (pos n) f g = refl
bits_of-equal (pos m) (negsuc n) f g = ne_eqb (of_z w64 (pos m)) (of_z w64 (negsuc n)) (λ e. omega (arith, f.sfits, g.sfits))
bits_of-equal (negsuc m) (pos n) f g = ne_eqb (of_z w64 (negsuc m)) (of_z w64 (pos n)) (λ e. omega (arith, f.sfits, g.sfits))
bits_of-equal (negsuc m) (negsuc n) f g = go (eqb m n) refl
  where
    go : (b : Bool) → eqb m n ≡ b → eqb (of_z w64 (negsuc m)) (of_z w64 (negsuc n)) ≡ b
    go true e = eq-eqb (of_z w64 (negsuc m)) (of_z w64 (negsuc n)) (ap (λ (k : ℕ). of_z w64 (negsuc k)) (eqb-true m n e))
    go false e = ne_eqb (of_z w64 (negsuc m)) (of_z w64 (negsuc n)) (λ p. eqb-false m n e (omega (arith, f.sfits, g.sfits)))

-- a number read back is below 0 where it has the sign
pub below-zero : {z : ℤ} → SFits w64 z → lt_z (back z) (pos 0) ≡ is_negative z
unfolding is_negative
below-zero {z = pos n} f = rw (back_is f) (le-ltb n 0 (omega arith))
below-zero {z = negsuc n} f = rw (back_is f)

-- below 0 the test against −2147483647 says whether the number is within
pub negative-within : {z : ℤ} → SFits w64 z → lt_z (back z) (pos 0) ≡ true → le_z (negsuc 2147483646) (back z) ≡ coef_within z
unfolding coef_within
negative-within {z = pos n} f e = absurd (omega (arith, ltb-true n 0 (rw (back_is f) at e)))
negative-within {z = negsuc n} f e = rw (back_is f) (sym (leb-suc-suc n 2147483646))

-- from 0 on the test against 2147483647 does
pub positive-within : {z : ℤ} → SFits w64 z → lt_z (back z) (pos 0) ≡ false → le_z (back z) (pos 2147483647) ≡ coef_within z
unfolding coef_within
positive-within {z = pos n} f e = rw (back_is f)
positive-within {z = negsuc n} f e = absurd (true≢false (rw (back_is f) at e))

-- ════ the absolute value

-- below 0 it is the negative
pub negative-size : {z : ℤ} → SFits w64 z → nat_abs z < 2 ^ 63 → lt_z (back z) (pos 0) ≡ true → back (pos 0 -ℤ back z) ≡ pos (nat_abs z)
negative-size {z = pos n} f h e = absurd (omega (arith, ltb-true n 0 (rw (back_is f) at e)))
negative-size {z = negsuc n} f h e = negative-gives f h

-- from 0 on the number itself
pub positive-size : {z : ℤ} → SFits w64 z → lt_z (back z) (pos 0) ≡ false → back z ≡ pos (nat_abs z)
positive-size {z = pos n} f e = back_is f
positive-size {z = negsuc n} f e = absurd (true≢false (rw (back_is f) at e))
