-- The bits that tell of fields. Assumes nothing.
use mathlib.Core.Path.{◌≡◌, refl}
use mathlib.Core.Bool.{Bool, true, false}
use mathlib.Core.List.{List, [], ◌∷◌}
use Prim.Native.Nat.{ℕ, ◌+◌, ◌<◌, ◌≤◌}
use native.Mathlib.Omega.{arith}
use lib.Dec.{eqb}
use lib.ListN.{length}
use Rattle.specification.specs.Results.{when◌then◌else◌}
use Rattle.specification.specs.Records.{bit_of, part_bit}
use Rattle.record_writing.specs.Written.{FieldBit}

-- the bits of parts are at most 32
pub part_bit-small : (xs : List ℕ) → part_bit xs ≤ 32
unfolding part_bit
part_bit-small xs = go (eqb (length xs) 1) (eqb (length xs) 2)
  where
    go : (a b : Bool) → (when a then 16 else when b then 32 else 0) ≤ 32
    go true b = omega arith
    go false true = omega arith
    go false false = omega arith

-- the bit of a field stands where the position moved
pub moved-bit : (from to value : ℕ) → from < to → FieldBit from to value value
unfolding bit_of
moved-bit from to value h = record { small = omega arith; is = go }
  where
    go : (xs : List ℕ) → to ≡ from + length xs → value ≡ bit_of xs value
    go [] e = absurd (omega arith)
    go (x ∷ xs) e = refl

-- and not where it did not
pub still-bit : (from to value : ℕ) → to ≤ from → FieldBit from to value 0
unfolding bit_of
still-bit from to value h = record { small = omega arith; is = go }
  where
    go : (xs : List ℕ) → to ≡ from + length xs → 0 ≡ bit_of xs value
    go [] e = refl
    go (x ∷ xs) e = absurd (omega arith)
