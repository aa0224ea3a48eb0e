-- The size of a signed number of 64 bits that is not the least. Assumes nothing.
use mathlib.Core.Path.{◌≡◌}
use mathlib.Core.Bool.{false}
use Prim.Native.Nat.{◌^◌, ◌<◌}
use native.Mathlib.Omega.{arith}
use lib.IntN.{ℤ, pos, negsuc, nat_abs}
use lib.Signed.{lt_z}
use mir.Syntax.{w64}
use mir.Val.{SFits}
use borrow.Author.Tests.{ltb-false}
use Rattle.integers.proofs.Machine.{back, back_is}

size_fits : (a : ℤ) → SFits w64 a → lt_z a (negsuc 9223372036854775806) ≡ false → nat_abs a < 2 ^ 63
size_fits (pos n) f e = f.sfits
size_fits (negsuc n) f e = omega (arith, ltb-false 9223372036854775806 n e)

-- it has 63 bits, read back or not
pub not_least : {a : ℤ} → SFits w64 a → lt_z (back a) (negsuc 9223372036854775806) ≡ false → nat_abs (back a) < 2 ^ 63
not_least {a} f e = rw (back_is f) (size_fits a f (rw (back_is f) at e))
