-- Summands in lent bytes: 16 bytes each, eight for the key and eight for the coefficient, the lowest byte first. Assumes nothing.
use Rattle.std.specs.Prelude.{List, [], ◌∷◌, ℕ, zero, suc, ◌+◌, ◌*◌, ◌/◌, ◌%◌, ℤ, pos, length, get_or}
use Rattle.std.specs.Int.{w64}
use Rattle.std.proofs.Common.{to_z}
use Rattle.algebra.specs.Lists.{tabulated}
use Rattle.polynomials.specs.Summands.{Summand}

-- the n bytes of a number, the lowest first
abbrev pub bytes_of : (n x : ℕ) → List ℕ
bytes_of zero x = []
bytes_of (suc n) x = x % 256 ∷ bytes_of n (x / 256)

-- the number of some bytes, the lowest first
abbrev pub number_of : (bytes : List ℕ) → ℕ
number_of [] = 0
number_of (b ∷ bs) = b + 256 * number_of bs

-- the eight bytes from a position on
unfoldable pub eight : (l : List ℕ) (at : ℕ) → List ℕ
eight l at =
    get_or l at 0 ∷ get_or l (at + 1) 0 ∷ get_or l (at + 2) 0 ∷ get_or l (at + 3) 0
    ∷ get_or l (at + 4) 0 ∷ get_or l (at + 5) 0 ∷ get_or l (at + 6) 0 ∷ get_or l (at + 7) 0 ∷ []

-- a key with its coefficient
abbrev pub summand : (key : ℕ) (coef : ℤ) → Summand
summand key coef = record { key = key; coef = coef }

-- what stands behind the last
abbrev pub none : Summand
none = summand 0 (pos 0)

-- the summand number i
unfoldable pub summand_at : (l : List ℕ) (i : ℕ) → Summand
summand_at l i = summand (number_of (eight l (16 * i))) (to_z w64 (number_of (eight l (16 * i + 8))))

-- the summands that the bytes are
unfoldable pub summands : (l : List ℕ) → List Summand
summands l = tabulated (length l / 16) (summand_at l)
