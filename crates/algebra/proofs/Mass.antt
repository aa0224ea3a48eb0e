-- The mass of a polynomial, the sum of its coefficients' absolute values, bounds each coefficient: below 2^63 each fits i64.
-- Sums and products of polynomials have at most the sum and the product of the masses. Assumes nothing.
use Rattle.std.specs.Prelude.{◌≡◌, refl, ℤ, pos, negsuc, nat_abs, ◌+ℤ◌, ◌*ℤ◌}
use Prim.Native.Nat.{ℕ, zero, suc, ◌+◌, ◌*◌, ◌^◌, ◌≤◌, ◌<◌, Ordering}
use Rattle.std.proofs.Math.Nat as N
use Rattle.std.proofs.Common.{arith, SFits}
use Rattle.std.specs.Int.{w64}
use Rattle.algebra.specs.Integers.{nat_abs_+ℤ, nat_abs_*ℤ, nat_abs-neg, sfits-nat_abs}
use Rattle.algebra.specs.Polynomials.{Key, Poly, nil, term, put, place, insert, add, mul, mul_term, mul_key, neg, gather, cmp_k}

-- the sum of the coefficients' absolute values
unfoldable pub mass : Poly → ℕ
mass nil = 0
mass (term k c p) = nat_abs c + mass p

-- ════ what the operations do to it

-- a term put in front adds at most its coefficient's
put-mass : (k : Key) (c : ℤ) (p : Poly) → mass (put k c p) ≤ nat_abs c + mass p
unfolding put mass
put-mass k (pos zero) p = omega arith
put-mass k (pos (suc n)) p = N.le_refl (suc n + mass p)
put-mass k (negsuc n) p = N.le_refl (suc n + mass p)

-- so does one that is placed
place-mass : (o : Ordering) (k l : Key) (c d : ℤ) (p r : Poly) → mass r ≤ nat_abs c + (nat_abs d + mass p)
    → mass (place o k c l d p r) ≤ nat_abs c + (nat_abs d + mass p)
unfolding place mass
place-mass Ordering.lt k l c d p r h = put-mass k c (term l d p)
place-mass Ordering.eq k l c d p r h = omega (arith, put-mass l (c +ℤ d) p, nat_abs_+ℤ c d)
place-mass Ordering.gt k l c d p r h = h

-- or inserted
pub insert-mass : (k : Key) (c : ℤ) (p : Poly) → mass (insert k c p) ≤ nat_abs c + mass p
unfolding insert mass
insert-mass k c nil = put-mass k c nil
insert-mass k c (term l d p) = place-mass (cmp_k k l) k l c d p (term l d (insert k c p)) (omega (arith, insert-mass k c p))

-- to gather like terms adds nothing
pub gather-mass : (p : Poly) → mass (gather p) ≤ mass p
unfolding gather mass
gather-mass nil = N.le_refl 0
gather-mass (term k c p) = omega (arith, insert-mass k c (gather p), gather-mass p)

-- a sum has at most the sum of the masses
pub add-mass : (p q : Poly) → mass (add p q) ≤ mass p + mass q
unfolding add mass
add-mass nil q = omega arith
add-mass (term k c p) q = omega (arith, insert-mass k c (add p q), add-mass p q)

-- the product with a term adds at most the coefficient's absolute value times the mass
mul_term-mass : (k : Key) (c : ℤ) (q acc : Poly) → mass (mul_term k c q acc) ≤ nat_abs c * mass q + mass acc
unfolding mul_term mass
mul_term-mass k c nil acc = omega arith
mul_term-mass k c (term l d q) acc =
    omega (arith, insert-mass (mul_key k l) (c *ℤ d) (mul_term k c q acc), nat_abs_*ℤ c d, mul_term-mass k c q acc, N.mul-add (nat_abs c) (nat_abs d) (mass q))

-- a product has at most the product of the masses
pub mul-mass : (p q : Poly) → mass (mul p q) ≤ mass p * mass q
unfolding mul mass
mul-mass nil q = omega arith
mul-mass (term k c p) q = omega (arith, mul_term-mass k c q (mul p q), mul-mass p q, N.add-mul (nat_abs c) (mass p) (mass q))

-- negation keeps the mass
pub neg-mass : (p : Poly) → mass (neg p) ≡ mass p
unfolding neg mass
neg-mass nil = refl
neg-mass (term k c p) = omega (arith, nat_abs-neg c, neg-mass p)

-- ════ what it says of the coefficients

-- P holds of each coefficient
abbrev pub AllC : (ℤ → Type 0) → Poly → Type 0
AllC P nil = Unit {0}
AllC P (term k c p) = P c × AllC P p

-- a bound of the mass bounds each coefficient
pub mass-bounds : (b : ℕ) (p : Poly) → mass p ≤ b → AllC (λ c. nat_abs c ≤ b) p
unfolding mass
mass-bounds b nil h = tt
mass-bounds b (term k c p) h = (omega arith, mass-bounds b p (omega arith))

-- each coefficient fits i64 where the mass is below 2^63
pub mass-fits : (p : Poly) → mass p < 2 ^ 63 → AllC (SFits w64) p
unfolding mass
mass-fits nil h = tt
mass-fits (term k c p) h = (sfits-nat_abs c (omega arith), mass-fits p (omega arith))
