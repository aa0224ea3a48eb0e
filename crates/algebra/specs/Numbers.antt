-- Natural numbers: what holds below a number, digits to the base 256, powers of 1. Assumes nothing.
use Rattle.std.specs.Prelude.{◌≡◌, ℕ, zero, suc, ◌+◌, ◌*◌, ◌/◌, ◌^◌, ◌<◌}
use Rattle.std.proofs.Common.{sym, ◌∙◌, subst, inl, inr, add-one, arith}
use Rattle.std.proofs.Math.Nat as N

-- ════ below a number

-- what holds below i and at i holds below i + 1
pub below_more : (P : ℕ → Type 0) (i : ℕ) → ((j : ℕ) → j < i → P j) → P i → (j : ℕ) → j < i + 1 → P j
below_more P i h p j l =
    elim (N.eq-or-lt_of_le (N.le_of_suc-le-suc (N.le_trans l (N.le_of_eq (add-one i))))) [ inl q ↦ subst P (sym q) p | inr q ↦ h j q ]

-- ════ digits to the base 256

-- a number below 256 ^ suc n without its lowest digit
pub shift_small : (n k : ℕ) → k < 256 ^ suc n → k / 256 < 256 ^ n
shift_small n k h = (N.div-lt_iff_lt-mul {k = 256} (omega arith)).1 (rw (N.pow-succ', N.mul_comm) at h)

-- a digit put below a number that is below 256 ^ n
pub digit-small : (n a q : ℕ) → a < 256 → q < 256 ^ n → a + 256 * q < 256 ^ suc n
digit-small n a q h k = rw (N.pow-succ' 256 n) (omega arith)

-- ════ powers

pub power_one : (e : ℕ) → 1 ^ e ≡ 1
power_one zero = N.pow-zero 1
power_one (suc e) = N.pow-succ' 1 e ∙ omega (arith, power_one e)
