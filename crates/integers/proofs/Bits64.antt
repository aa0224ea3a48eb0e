-- The 64 bits of a signed number, as the code reaches them. Assumes nothing.
use mathlib.Core.Path.{◌≡◌, refl, ap}
use mathlib.Core.Bool.{true, false, true≢false}
use Prim.Native.Nat.{ℕ, zero, suc, ◌-◌, ◌^◌, ◌≤◌, ◌<◌}
use native.Mathlib.Omega.{arith}
use lib.IntN.{ℤ, pos, negsuc, ◌-ℤ◌}
use lib.Signed.{mag, lt_z}
use borrow.Author.Tests.{le-ltb, ltb-true}
use mir.Syntax.{w64}
use mir.Val.{SFits, to_z, of_z}
use mir.ValLaws.{to_z_pos}
use Rattle.integers.proofs.Machine.{back, back_is}

-- −1 − z, where z is below 0
from-minus_one : (n : ℕ) → negsuc 0 -ℤ negsuc n ≡ pos n
from-minus_one n =
    let e : suc n - 1 ≡ n = omega arith in
    rw (le-ltb (suc n) 1 (omega arith), e)

-- and where it is not
minus : (n : ℕ) → negsuc 0 -ℤ pos n ≡ negsuc n
minus zero = refl
minus (suc n) = ap negsuc (omega arith)

-- below 0: −1 − z, and the bits
pub below : (z : ℤ) → SFits w64 z → lt_z (back z) (pos 0) ≡ true → (negsuc 0 -ℤ back z ≡ pos (mag z)) × (of_z w64 z ≡ 18446744073709551615 - mag z)
below (pos n) f e = absurd (omega (arith, ltb-true n 0 (rw (back_is f) at e)))
below (negsuc n) f e = (rw (back_is f) (from-minus_one n), omega arith)

-- the same, read back
pub below-back : (z : ℤ) → SFits w64 z → lt_z (back z) (pos 0) ≡ true → back (negsuc 0 -ℤ back z) ≡ pos (mag z)
below-back z f e = rw (below z f e).0 (back_is {z = pos (mag z)} (record { sfits = f.sfits }))

-- from 0 on the bits are the number
pub above : (z : ℤ) → SFits w64 z → lt_z (back z) (pos 0) ≡ false → back z ≡ pos (of_z w64 z)
above (pos n) f e = back_is f
above (negsuc n) f e = absurd (true≢false (rw (back_is f) at e))

-- bits from 2 ^ 63 on are those of a number below 0
pub high : (u : ℕ) → 9223372036854775808 ≤ u → u < 2 ^ 64 → negsuc 0 -ℤ to_z w64 (18446744073709551615 - u) ≡ to_z w64 u
high u h k =
    let e : 18446744073709551616 - suc u ≡ 18446744073709551615 - u = omega arith in
    rw (to_z_pos w64 (18446744073709551615 - u) (omega arith), minus, le-ltb u 9223372036854775808 h, e)
