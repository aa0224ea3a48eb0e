-- `call_cases::written` is safe: a number within the limits has a size. Assumes nothing.
use Rattle.std.proofs.Common.{rules}
use mathlib.Core.Path.{◌≡◌, sym, ◌∙◌}
use mathlib.Core.Bool.{true}
use Prim.Native.Nat.{◌^◌, ◌<◌}
use native.Mathlib.Omega.{arith}
use lib.IntN.{ℤ, nat_abs}
use borrow.Author.Tests.{leb-true, not-false}
use Rattle.specification.specs.Terms.{coef_within}
use Rattle.call_cases.proofs.written.Goals as goal

-- a number within the limits has less than 63 bits
small : (a : ℤ) → coef_within a ≡ true → nat_abs a < 2 ^ 63
unfolding coef_within
small a e = omega (arith, leb-true (nat_abs a) 2147483647 e)

pub size-requires : goal.size-requires
size-requires c = small _ (sym c.within.ensures ∙ c.if-not-within.false)
