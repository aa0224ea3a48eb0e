-- Keys of monomials: a number of eight digits to the base 256. A digit 0 is nothing, a digit x + 1 the variable x. Assumes nothing.
--
-- In a key the variables descend from the most significant digit on, and the zeros stand behind them.
use Rattle.std.specs.Prelude.{Bool, ◌||◌, ◌≡◌, ◌⊎◌, ℕ, zero, suc, ◌+◌, ◌*◌, ◌/◌, ◌%◌, ◌≤◌, leb, eqb, ℤ, pos, ◌*ℤ◌}
use Rattle.specification.specs.Results.{when◌then◌else◌}

-- the value of a digit where each variable x has the value σ x
unfoldable pub digit_value : (σ : ℕ → ℤ) (digit : ℕ) → ℤ
digit_value σ zero = pos 1
digit_value σ (suc x) = σ x

-- the product of the lowest n digits of a key
unfoldable pub key_value : (σ : ℕ → ℤ) (n key : ℕ) → ℤ
key_value σ zero k = pos 1
key_value σ (suc n) k = digit_value σ (k % 256) *ℤ key_value σ n (k / 256)

-- a digit put into n digits in their order: before the first that is not less, from the lowest on
unfoldable pub placed : (n digit key : ℕ) → ℕ
placed zero d k = d
placed (suc n) d k = when leb d (k % 256) then 256 * k + d else k % 256 + 256 * placed n d (k / 256)

-- a key whose lowest digit is 0 times the variable of a digit
unfoldable pub times_digit : (digit key : ℕ) → ℕ
times_digit d k = when eqb d 0 then k else placed 7 d (k / 256)

-- the digit is 0 or d
unfoldable pub goes : (d digit : ℕ) → Bool
goes d a = eqb a 0 || eqb a d

-- the key with 0 for each d at its end
unfoldable pub rest : (n d key : ℕ) → ℕ
rest zero d k = k
rest (suc n) d k = when goes d (k % 256) then 256 * rest n d (k / 256) else k

-- how often d stands at its end
unfoldable pub exponent : (n d key : ℕ) → ℕ
exponent zero d k = 0
exponent (suc n) d k =
    when eqb (k % 256) 0 then exponent n d (k / 256) else when eqb (k % 256) d then suc (exponent n d (k / 256)) else 0

-- the lowest digit that is not 0, or 0
unfoldable pub lowest : (n key : ℕ) → ℕ
lowest zero k = 0
lowest (suc n) k = when eqb (k % 256) 0 then lowest n (k / 256) else k % 256

-- n digits, none below `low`, that descend from the highest on
abbrev pub From : (low n key : ℕ) → Type 0
From low zero k = k ≡ 0
From low (suc n) k = (low ≤ k % 256) × From (k % 256) n (k / 256)

-- n digits that descend, the last of them zeros, the others not below `low`
abbrev pub Ordered : (low n key : ℕ) → Type 0
Ordered low zero k = k ≡ 0
Ordered low (suc n) k = ((k % 256 ≡ 0) × Ordered low n (k / 256)) ⊎ From low (suc n) k

-- the sum of a number for each digit
unfoldable pub tally : (f : ℕ → ℕ) (n key : ℕ) → ℕ
tally f zero k = 0
tally f (suc n) k = f (k % 256) + tally f n (k / 256)
