-- The sign of an integer, and what an exact division says. Assumes nothing.
use Rattle.std.specs.Prelude.{◌≡◌, Bool, true, false, ◌≤◌, ℤ, pos, negsuc, nat_abs, ◌*ℤ◌}
use Rattle.std.specs.Prelude.{Option, None, IfSome, IsSome}
use Rattle.algebra.specs.Integers.{NonZero}

-- below 0
unfoldable pub is_negative : ℤ → Bool
is_negative (pos n) = false
is_negative (negsuc n) = true

-- the quotient r of a by b, if there is one: where b is not 0 and divides a
pub record Divided (a b : ℤ) (r : Option ℤ) : Type 0 where
  -- times b it is a
  pub product : IfSome r (λ q. q *ℤ b ≡ a)
  -- where b is not 0 and some k times b is a, there is one
  pub found : (k : ℤ) → k *ℤ b ≡ a → NonZero b → IsSome r
  -- where b is 0, there is none
  pub by_zero : b ≡ pos 0 → r ≡ None
  -- and it is no larger than a
  pub bound : IfSome r (λ q. nat_abs q ≤ nat_abs a)
