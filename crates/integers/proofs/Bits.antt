-- An integer as a number of 32 bits and back, by sums that are made with 64, and the four stores of its bytes.
-- Assumes nothing.
use mathlib.Core.Path.{◌≡◌, refl, ◌∙◌}
use mathlib.Core.Bool.{Bool, true, false, true≢false}
use mathlib.Core.List.{List}
use Prim.Native.Nat.{ℕ, suc, ◌+◌, ◌-◌, ◌/◌, ◌%◌, ◌≤◌, ◌<◌}
use native.Mathlib.Omega.{arith}
use native.Mathlib.Numerals.{towards_suc}
use lib.IntN.{ℤ, pos, negsuc, nat_abs, ◌+ℤ◌, ◌-ℤ◌}
use lib.Signed.{lt_z}
use lib.ListN.{length, set}
use lib.Dec.{ltb}
use borrow.Author.Tests.{lt-ltb, le-ltb, ltb-true, ltb-false}
use mir.Syntax.{w64}
use mir.Val.{SFits, to_z}
use mir.ValLaws.{to_z_pos}
use Rattle.specification.specs.Results.{when◌then◌else◌}
use Rattle.specification.specs.Records.{to_bits32, from_bits32, four_bytes}
use Rattle.algebra.specs.Integers.{sfits-sum}
use Rattle.integers.specs.Over.{over}
use Rattle.integers.proofs.Machine.{back, back_is, asks, gives, literal-fits}
use Rattle.integers.proofs.Over.{sets_over}

-- ════ from bits

-- below 2147483648 the number is its own bits
pub low_bits : {u : ℕ} → u < 2147483648 → to_z w64 u ≡ from_bits32 u
unfolding from_bits32
low_bits {u} h = rw (to_z_pos w64 u (omega arith), lt-ltb u 2147483648 h)

-- from 2147483648 on
module _ {u : ℕ} (g : 2147483648 ≤ u) (h : u < 4294967296) where
  -- the bits less 4294967296
  minus : to_z w64 u -ℤ pos 4294967296 ≡ negsuc (4294967295 - u)
  minus =
      let e : 4294967296 - suc u ≡ 4294967295 - u = omega arith in rw (to_z_pos w64 u (omega arith), lt-ltb u 4294967296 h, e)

  -- they fit
  pub high_bits-ask : SFits w64 (to_z w64 u -ℤ pos 4294967296)
  high_bits-ask = rw minus (record { sfits = omega arith })

  -- and are the number
  pub high_bits : back (to_z w64 u -ℤ pos 4294967296) ≡ from_bits32 u
  unfolding from_bits32
  high_bits = back_is high_bits-ask ∙ rw (minus, le-ltb u 2147483648 g)

-- what 32 bits spell is at most 2147483648 in size
pub from_bits-bound : {u : ℕ} → u < 4294967296 → nat_abs (from_bits32 u) ≤ 2147483648
unfolding from_bits32
from_bits-bound {u} h = go (ltb u 2147483648) refl
  where
    go : (t : Bool) → ltb u 2147483648 ≡ t → nat_abs (when t then pos u else negsuc (4294967295 - u)) ≤ 2147483648
    go true e = omega (arith, ltb-true u 2147483648 e)
    go false e = omega (arith, ltb-false u 2147483648 e)

-- ════ to bits

-- the bits of a number within
pub bits-bound : (z : ℤ) → nat_abs z ≤ 2147483647 → to_bits32 z < 4294967296
unfolding to_bits32
bits-bound (pos n) h = omega arith
bits-bound (negsuc n) h = omega arith

-- a number within plus 4294967296 fits
pub negative-asks-bits : {z : ℤ} → SFits w64 z → nat_abs z ≤ 2147483647 → SFits w64 (back z +ℤ pos 4294967296)
negative-asks-bits {z} f h = asks ◌+ℤ◌ f (literal-fits 4294967296 (omega arith)) (sfits-sum z (pos 4294967296) (omega arith))

-- below 0 it is the bits
plus : (z : ℤ) → nat_abs z ≤ 2147483647 → lt_z z (pos 0) ≡ true → z +ℤ pos 4294967296 ≡ pos (to_bits32 z)
unfolding to_bits32
plus (pos n) h e = absurd (omega (arith, ltb-true n 0 e))
plus (negsuc n) h e =
    let q : 4294967296 - suc n ≡ 4294967295 - n = omega arith in rw (le-ltb 4294967296 (suc n) (omega arith), q)

-- so read back
pub negative-bits : {z : ℤ} → SFits w64 z → nat_abs z ≤ 2147483647 → lt_z (back z) (pos 0) ≡ true
    → back (back z +ℤ pos 4294967296) ≡ pos (to_bits32 z)
negative-bits {z} f h e =
    gives ◌+ℤ◌ f (literal-fits 4294967296 (omega arith)) (sfits-sum z (pos 4294967296) (omega arith)) ∙ plus z h (rw (back_is f) at e)

-- from 0 on the bits are the number
pub positive-bits : {z : ℤ} → SFits w64 z → lt_z (back z) (pos 0) ≡ false → back z ≡ pos (to_bits32 z)
unfolding to_bits32
positive-bits {z = pos n} f e = back_is f
positive-bits {z = negsuc n} f e = absurd (true≢false (rw (back_is f) at e))

-- ════ the bytes

-- four stores in a row write the four bytes
pub four-stores : (l : List ℕ) (at : ℕ) (z : ℤ) (u : ℕ) → at + 4 ≤ length l → u ≡ to_bits32 z
    → set (set (set (set l at (u / 16777216 % 256)) (at + 1) (u / 65536 % 256)) (at + 2) (u / 256 % 256)) (at + 3) (u % 256)
    ≡ over l at (four_bytes z)
unfolding four_bytes
four-stores l at z u h e = rw (e, ← sets_over l at (four_bytes z) h) (simp towards_suc)
