-- The quotient and the rest of two integers: when the rest is 0 the quotient is exact, and where there is an exact one the rest is 0.
-- Assumes nothing.
use mathlib.Core.Path.{◌≡◌, refl, sym, ap, ◌∙◌}
use mathlib.Core.Bool.{true, false, true≢false}
use Prim.Native.Nat.{zero, suc, ◌*◌, ◌/◌, ◌%◌, ◌^◌, ◌≤◌, ◌<◌}
use native.Mathlib.Nat.{div-le_self, div-add-mod', mul-mod_left, lt_of_le_of_lt}
use native.Mathlib.Omega.{arith}
use Prim.Native.Nat.{ℕ}
use Rattle.std.specs.Prelude.{Some, None}
use borrow.Author.Tests.{eq-eqb, ne_eqb}
use lib.IntN.{ℤ, pos, negsuc, nat_abs, neg_ℤ, ◌*ℤ◌, neg_ℤ-neg_ℤ}
use lib.Signed.{quot_z, rem_z, mag_rem}
use lib.Dec.{eqb}
use mir.Syntax.{w64}
use mir.Val.{SFits, of_z, to_z}
use mir.ValLaws.{sfits_le}
use Rattle.specification.specs.Terms.{is_zero}
use Rattle.algebra.specs.Integers.{nat_abs-neg, nat_abs_*ℤ, nat_abs_zero, neg_*ℤ, sfits-nat_abs}
use Rattle.integers.specs.Arithmetic.{Divided}
use Rattle.integers.proofs.Machine.{back, back_is, bits_of_zero}

-- ════ over the integers

-- the quotient is no larger than the dividend
quotient-bound : (a b : ℤ) → nat_abs (quot_z a b) ≤ nat_abs a
quotient-bound (pos a) (pos b) = div-le_self a b
quotient-bound (pos a) (negsuc b) = rw nat_abs-neg (div-le_self a (suc b))
quotient-bound (negsuc a) (pos b) = rw nat_abs-neg (div-le_self (suc a) b)
quotient-bound (negsuc a) (negsuc b) = div-le_self (suc a) (suc b)

-- the size of the rest
rest-size : (a b : ℤ) → nat_abs (rem_z a b) ≡ nat_abs a % nat_abs b
rest-size (pos a) b = refl
rest-size (negsuc a) b = nat_abs-neg (pos (suc a % nat_abs b))

-- a quotient of the sizes that is exact gives back the dividend
exact-product : (a b : ℤ) → nat_abs a / nat_abs b * nat_abs b ≡ nat_abs a → quot_z a b *ℤ b ≡ a
exact-product (pos a) (pos b) e = ap pos e
exact-product (pos a) (negsuc b) e = neg_*ℤ (pos (a / suc b)) (negsuc b) ∙ neg_ℤ-neg_ℤ (pos (a / suc b * suc b)) ∙ ap pos e
exact-product (negsuc a) (pos b) e = neg_*ℤ (pos (suc a / b)) (pos b) ∙ ap (λ n. neg_ℤ (pos n)) e
exact-product (negsuc a) (negsuc b) e = ap (λ n. neg_ℤ (pos n)) e

-- where the test for 0 holds
zero_test : (z : ℤ) → is_zero z ≡ true → nat_abs z ≡ 0
unfolding is_zero
zero_test (pos zero) e = refl
zero_test (pos (suc n)) e = absurd (true≢false (sym e))
zero_test (negsuc n) e = absurd (true≢false (sym e))

-- with the rest 0 the quotient times the divisor is the dividend
no_rest-exact : (a b : ℤ) → is_zero (rem_z a b) ≡ true → quot_z a b *ℤ b ≡ a
no_rest-exact a b e =
    exact-product a b (omega (arith, div-add-mod' (nat_abs a) (nat_abs b), rest-size a b, zero_test (rem_z a b) e))

-- a multiple of the divisor has the rest 0
multiple-no_rest : (a b k : ℤ) → k *ℤ b ≡ a → is_zero (rem_z a b) ≡ true
unfolding is_zero
multiple-no_rest a b k e =
    let m : nat_abs k * nat_abs b ≡ nat_abs a = sym (nat_abs_*ℤ k b) ∙ ap nat_abs e in
    rw (nat_abs_zero (rem_z a b) (rest-size a b ∙ rw (← m) (mul-mod_left (nat_abs k) (nat_abs b))))

-- ════ as the machine divides

-- a divisor whose bits are not those of 0: the division is defined
pub quotient-asks : {a b : ℤ} → SFits w64 a → SFits w64 b → nat_abs a < 2 ^ 63 → (of_z w64 b ≡ 0 → ⊥)
    → (0 < of_z w64 b) × SFits w64 (quot_z (back a) (back b))
quotient-asks {a} {b} f g h n = (omega arith, rw (back_is f, back_is g) (sfits-nat_abs (quot_z a b) (lt_of_le_of_lt (quotient-bound a b) h)))

-- a divisor whose bits are those of 0: no quotient
pub by_zero_lem : {a b : ℤ} → SFits w64 b → of_z w64 b ≡ 0 → Divided a b None
by_zero_lem {a} {b} g e =
    let z : b ≡ pos 0 = sym (back_is g) ∙ ap (to_z w64) e in
    record { product = tt; found = λ k p n. absurd (n z); by_zero = λ p. refl; bound = tt }

-- what the quotient and the test of the rest say
module _ {a b : ℤ} (f : SFits w64 a) (g : SFits w64 b) (h : nat_abs a < 2 ^ 63) (n : of_z w64 b ≡ 0 → ⊥) where
  abbrev rest : ℕ
  rest = of_z w64 (rem_z (back a) (back b))

  rest_is : eqb rest 0 ≡ is_zero (rem_z a b)
  rest_is = rw (back_is f, back_is g, bits_of_zero (rem_z a b) (sfits_le (mag_rem a b) f))

  -- a rest: no quotient
  pub not-divided : (rest ≡ 0 → ⊥) → Divided a b None
  not-divided r = record {
    product = tt;
    found = λ k p m. absurd (true≢false (sym (sym (ne_eqb rest 0 r) ∙ rest_is ∙ multiple-no_rest a b k p)));
    by_zero = λ p. refl;
    bound = tt;
  }

  -- no rest
  pub divided : rest ≡ 0 → Divided a b (Some (back (quot_z (back a) (back b))))
  divided r = rw (back_is f, back_is g, back_is (sfits-nat_abs (quot_z a b) (lt_of_le_of_lt (quotient-bound a b) h))) (record {
    product = no_rest-exact a b (sym rest_is ∙ eq-eqb rest 0 r);
    found = λ k p m. refl;
    by_zero = λ p. absurd (n (ap (of_z w64) p));
    bound = quotient-bound a b;
  })
