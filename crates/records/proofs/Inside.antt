-- What was written in front of the bytes lent lies inside them. Assumes nothing.
use mathlib.Core.Path.{◌≡◌}
use mathlib.Core.List.{List}
use Prim.Native.Nat.{ℕ, ◌≤◌}
use native.Mathlib.Omega.{arith}
use lib.ListN.{length, length-append}
use Rattle.specification.specs.Records.{write_into}

-- as many bytes are there as were written
pub written_inside : (text before after : List ℕ) (n : ℕ) → n ≡ length text → after ≡ write_into text before → n ≤ length after
unfolding write_into
written_inside text before after n e q = rw (q, length-append) (omega arith)
