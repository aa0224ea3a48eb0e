-- ℤ as a commutative ring without zero divisors, and when an integer fits i64: what lib.IntN leaves out. Assumes nothing.
use Rattle.std.specs.Prelude.{◌≡◌, refl, ◌⊎◌, ℕ, zero, suc, ◌+◌, ◌*◌, ◌-◌, ◌<◌, ◌≤◌, ◌^◌, ltb, ℤ, pos, negsuc, neg_ℤ, nat_abs, ◌+ℤ◌, ◌-ℤ◌, ◌*ℤ◌}
use Rattle.std.proofs.Common.{sym, ◌∙◌, ap, inl, inr, arith, ltb→lt, SFits}
use Rattle.std.proofs.Math.Nat as N
use Rattle.std.proofs.Math.IntN.{sub_ℕ}
use Rattle.std.proofs.Math.IntN as I
use Rattle.std.specs.Int.Signed.{mag}
use Rattle.std.specs.Int.{w64}
use Rattle.algebra.specs.Conditions.{cond_either}

-- ════ sums

-- a + (b + c) = b + (a + c)
pub +ℤ_left_comm : (a b c : ℤ) → a +ℤ (b +ℤ c) ≡ b +ℤ (a +ℤ c)
+ℤ_left_comm a b c = rw (← I.+ℤ_assoc a, I.+ℤ_comm a b, I.+ℤ_assoc)

-- (a + b) + c = (a + c) + b
pub +ℤ_right_comm : (a b c : ℤ) → (a +ℤ b) +ℤ c ≡ (a +ℤ c) +ℤ b
+ℤ_right_comm a b c = simp (I.+ℤ_assoc, I.+ℤ_comm)

-- (a + b) + (c + d) = (a + c) + (b + d)
pub +ℤ_interchange : (a b c d : ℤ) → (a +ℤ b) +ℤ (c +ℤ d) ≡ (a +ℤ c) +ℤ (b +ℤ d)
+ℤ_interchange a b c d = simp (I.+ℤ_assoc, +ℤ_left_comm)

-- a + (b + (c + d)) = c + (b + (a + d))
pub +ℤ_outer-comm : (a b c d : ℤ) → a +ℤ (b +ℤ (c +ℤ d)) ≡ c +ℤ (b +ℤ (a +ℤ d))
+ℤ_outer-comm a b c d =
    ap (λ (z : ℤ). a +ℤ z) (+ℤ_left_comm b c d) ∙ +ℤ_left_comm a c (b +ℤ d) ∙ ap (λ (z : ℤ). c +ℤ z) (+ℤ_left_comm a b d)

-- equal sums with one summand equal have the other equal
pub +ℤ_cancel_left : (a b c : ℤ) → a +ℤ b ≡ a +ℤ c → b ≡ c
+ℤ_cancel_left a b c e = cc (I.+ℤ_assoc (neg_ℤ a) a b, I.+ℤ_assoc (neg_ℤ a) a c, I.+ℤ_invl a, I.+ℤ_idl b, I.+ℤ_idl c)

-- what adds to 0 is the negative
pub neg_unique : (u v : ℤ) → u +ℤ v ≡ pos zero → v ≡ neg_ℤ u
neg_unique u v e = +ℤ_cancel_left u v (neg_ℤ u) (e ∙ sym (I.+ℤ_invr u))

-- numbers with the difference 0 are equal
pub sub_zero→eq : (x y : ℤ) → x -ℤ y ≡ pos zero → x ≡ y
sub_zero→eq x y e = sym (I.-ℤ-+ℤ_cancel x y) ∙ rw (e, I.+ℤ_idl)

-- ════ products, by induction on the first factor

-- (a + b) c = a c + b c
pub +ℤ-*ℤ : (a b c : ℤ) → (a +ℤ b) *ℤ c ≡ a *ℤ c +ℤ b *ℤ c
+ℤ-*ℤ (pos zero) b c = simp (I.+ℤ_idl, I.zero-*ℤ)
+ℤ-*ℤ (pos (suc n)) b c = simp (I.suc_ℤ-+ℤ (pos n), I.suc_ℤ-*ℤ (pos n), I.suc_ℤ-*ℤ (pos n +ℤ b), +ℤ-*ℤ (pos n) b c, +ℤ_right_comm)
+ℤ-*ℤ (negsuc zero) b c = simp (I.pred_ℤ-+ℤ (pos zero), I.+ℤ_idl, I.pred_ℤ-*ℤ b, I.pred_ℤ-*ℤ (pos zero), I.zero-*ℤ, I.+ℤ_comm)
+ℤ-*ℤ (negsuc (suc n)) b c = simp (I.pred_ℤ-+ℤ (negsuc n), I.pred_ℤ-*ℤ (negsuc n), I.pred_ℤ-*ℤ (negsuc n +ℤ b), +ℤ-*ℤ (negsuc n) b c, +ℤ_right_comm)

-- a (b + c) = a b + a c
pub *ℤ-+ℤ : (a b c : ℤ) → a *ℤ (b +ℤ c) ≡ a *ℤ b +ℤ a *ℤ c
*ℤ-+ℤ a b c = I.*ℤ_comm a (b +ℤ c) ∙ +ℤ-*ℤ b c a ∙ (λ i. I.*ℤ_comm b a i +ℤ I.*ℤ_comm c a i)

-- (− x) y = − x y
pub neg_*ℤ : (x y : ℤ) → neg_ℤ x *ℤ y ≡ neg_ℤ (x *ℤ y)
neg_*ℤ x y = neg_unique (x *ℤ y) (neg_ℤ x *ℤ y) (rw (← +ℤ-*ℤ, I.+ℤ_invr, I.zero-*ℤ))

-- x (− y) = − x y
pub *ℤ_neg : (x y : ℤ) → x *ℤ neg_ℤ y ≡ neg_ℤ (x *ℤ y)
*ℤ_neg x y = I.*ℤ_comm x (neg_ℤ y) ∙ neg_*ℤ y x ∙ ap neg_ℤ (I.*ℤ_comm y x)

-- 1 x = x
pub one_*ℤ : (x : ℤ) → pos 1 *ℤ x ≡ x
one_*ℤ x = I.suc_ℤ-*ℤ (pos zero) x ∙ simp (I.zero-*ℤ, I.+ℤ_idl)

-- x 1 = x
pub *ℤ-1 : (x : ℤ) → x *ℤ pos 1 ≡ x
*ℤ-1 x = I.*ℤ_comm x (pos 1) ∙ one_*ℤ x

-- (− 1) x = − x
pub neg_one_*ℤ : (x : ℤ) → negsuc zero *ℤ x ≡ neg_ℤ x
neg_one_*ℤ x = I.pred_ℤ-*ℤ (pos zero) x ∙ simp (I.zero-*ℤ, I.+ℤ_idl)

-- (a b) c = a (b c)
pub *ℤ_assoc : (a b c : ℤ) → (a *ℤ b) *ℤ c ≡ a *ℤ (b *ℤ c)
*ℤ_assoc (pos zero) b c = simp I.zero-*ℤ
*ℤ_assoc (pos (suc n)) b c = simp (I.suc_ℤ-*ℤ (pos n), +ℤ-*ℤ, *ℤ_assoc (pos n) b c)
*ℤ_assoc (negsuc zero) b c = simp (neg_one_*ℤ, neg_*ℤ)
*ℤ_assoc (negsuc (suc n)) b c = simp (I.pred_ℤ-*ℤ (negsuc n), +ℤ-*ℤ, neg_*ℤ, *ℤ_assoc (negsuc n) b c)

-- a (b c) = b (a c)
pub *ℤ_left_comm : (a b c : ℤ) → a *ℤ (b *ℤ c) ≡ b *ℤ (a *ℤ c)
*ℤ_left_comm a b c = rw (← *ℤ_assoc a, I.*ℤ_comm a b, *ℤ_assoc)

-- (a b) (c d) = (a c) (b d)
pub *ℤ_interchange : (a b c d : ℤ) → (a *ℤ b) *ℤ (c *ℤ d) ≡ (a *ℤ c) *ℤ (b *ℤ d)
*ℤ_interchange a b c d = simp (*ℤ_assoc, *ℤ_left_comm)

-- ════ absolute values

-- |− x| = |x|
pub nat_abs-neg : (x : ℤ) → nat_abs (neg_ℤ x) ≡ nat_abs x
nat_abs-neg (pos zero) = refl
nat_abs-neg (pos (suc n)) = refl
nat_abs-neg (negsuc n) = refl

-- |x y| = |x| |y|
pub nat_abs_*ℤ : (x y : ℤ) → nat_abs (x *ℤ y) ≡ nat_abs x * nat_abs y
nat_abs_*ℤ (pos a) (pos b) = refl
nat_abs_*ℤ (pos a) (negsuc b) = nat_abs-neg (pos (a * suc b))
nat_abs_*ℤ (negsuc a) (pos b) = nat_abs-neg (pos (suc a * b))
nat_abs_*ℤ (negsuc a) (negsuc b) = refl

-- |a − b| ≤ a + b for two naturals
pub nat_abs-sub : (a b : ℕ) → nat_abs (sub_ℕ a b) ≤ a + b
nat_abs-sub a b =
    cond_either (ltb a b) (negsuc (b - suc a)) (pos (a - b)) (λ z. nat_abs z ≤ a + b) (λ t. omega (arith, ltb→lt a b t)) (λ t. omega arith)

-- |x + y| ≤ |x| + |y|
pub nat_abs_+ℤ : (x y : ℤ) → nat_abs (x +ℤ y) ≤ nat_abs x + nat_abs y
nat_abs_+ℤ (pos a) (pos b) = N.le_refl (a + b)
nat_abs_+ℤ (pos a) (negsuc b) = nat_abs-sub a (suc b)
nat_abs_+ℤ (negsuc a) (pos b) = omega (arith, nat_abs-sub b (suc a))
nat_abs_+ℤ (negsuc a) (negsuc b) = omega arith

-- only 0 has the absolute value 0
pub nat_abs_zero : (x : ℤ) → nat_abs x ≡ zero → x ≡ pos zero
nat_abs_zero (pos n) e = ap pos e
nat_abs_zero (negsuc n) e = absurd (N.suc-ne-zero n e)

-- ════ numbers that are not 0

-- z is not 0
abbrev pub NonZero : ℤ → Type 0
NonZero z = z ≡ pos 0 → ⊥

-- 1, 2, 3, … are not 0
pub pos-nonzero : (n : ℕ) → NonZero (pos (suc n))
pos-nonzero n e = N.suc-ne-zero n (ap nat_abs e)

-- nor are −1, −2, −3, …
pub negsuc-nonzero : (n : ℕ) → NonZero (negsuc n)
negsuc-nonzero n e = N.suc-ne-zero n (ap nat_abs e)

-- a number is 0 or it is not
pub zero_or_not : (z : ℤ) → (z ≡ pos 0) ⊎ NonZero z
zero_or_not (pos zero) = inl refl
zero_or_not (pos (suc n)) = inr (pos-nonzero n)
zero_or_not (negsuc n) = inr (negsuc-nonzero n)

-- a product is 0 only where a factor is
pub no_zero-div : (x y : ℤ) → x *ℤ y ≡ pos zero → (x ≡ pos zero) ⊎ (y ≡ pos zero)
no_zero-div x y e = go (nat_abs x) (nat_abs y) refl refl
  where
    go : (m n : ℕ) → nat_abs x ≡ m → nat_abs y ≡ n → (x ≡ pos zero) ⊎ (y ≡ pos zero)
    go zero n p q = inl (nat_abs_zero x p)
    go (suc m) zero p q = inr (nat_abs_zero y q)
    go (suc m) (suc n) p q =
        let h : nat_abs (x *ℤ y) ≡ suc m * suc n = nat_abs_*ℤ x y ∙ (λ i. p i * q i) in absurd (omega (arith, N.mul-suc (suc m) n, ap nat_abs e))

-- so the factors of what is not 0 are not 0
pub factors-nonzero : (x y : ℤ) → NonZero (x *ℤ y) → NonZero x × NonZero y
factors-nonzero x y h = (λ e. h (rw (e, I.zero-*ℤ)), λ e. h (rw (e, I.*ℤ-zero)))

-- and the product of two that are not 0 is not 0
pub product-nonzero : (x y : ℤ) → NonZero x → NonZero y → NonZero (x *ℤ y)
product-nonzero x y h g e = elim (no_zero-div x y e) [ inl p ↦ h p | inr q ↦ g q ]

-- a number of size 1 is not 0
pub unit-nonzero : (x : ℤ) → nat_abs x ≡ 1 → NonZero x
unit-nonzero x h e = N.suc-ne-zero 0 (sym h ∙ ap nat_abs e)

-- and its square is 1
pub unit-square : (x : ℤ) → nat_abs x ≡ 1 → x *ℤ x ≡ pos 1
unit-square (pos n) h = ap (λ (k : ℕ). pos (k * k)) h
unit-square (negsuc n) h = ap (λ (k : ℕ). pos (k * k)) h

-- equal products with one factor equal, and not 0, have the other equal
pub *ℤ_cancel : (k x y : ℤ) → NonZero k → k *ℤ x ≡ k *ℤ y → x ≡ y
*ℤ_cancel k x y h e = elim (no_zero-div k (x -ℤ y) (simp (*ℤ-+ℤ, *ℤ_neg, e, I.+ℤ_invr))) [ inl p ↦ absurd (h p) | inr q ↦ sub_zero→eq x y q ]

-- ════ a bound on the absolute value makes an i64 fit

-- the magnitude that i64 asks for is at most the absolute value
pub mag-nat_abs : (z : ℤ) → mag z ≤ nat_abs z
mag-nat_abs (pos n) = N.le_refl n
mag-nat_abs (negsuc n) = N.le-suc n

-- |z| < 2^63 fits
pub sfits-nat_abs : (z : ℤ) → nat_abs z < 2 ^ 63 → SFits w64 z
sfits-nat_abs z h = record { sfits = N.lt_of_le_of_lt (mag-nat_abs z) h }

-- |x| + |y| < 2^63: the sum fits
pub sfits-sum : (x y : ℤ) → nat_abs x + nat_abs y < 2 ^ 63 → SFits w64 (x +ℤ y)
sfits-sum x y h = sfits-nat_abs (x +ℤ y) (N.lt_of_le_of_lt (nat_abs_+ℤ x y) h)

-- and so does the difference
pub sfits-diff : (x y : ℤ) → nat_abs x + nat_abs y < 2 ^ 63 → SFits w64 (x -ℤ y)
sfits-diff x y h = sfits-sum x (neg_ℤ y) (omega (arith, nat_abs-neg y))

-- |x| ≤ m, |y| ≤ n and m n < 2^63: the product fits
pub sfits-prod : (x y : ℤ) (m n : ℕ) → nat_abs x ≤ m → nat_abs y ≤ n → m * n < 2 ^ 63 → SFits w64 (x *ℤ y)
sfits-prod x y m n p q h = sfits-nat_abs (x *ℤ y) (omega (arith, nat_abs_*ℤ x y, N.mul-le-mul p q))
