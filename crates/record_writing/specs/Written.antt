-- What a writer leaves in the bytes lent. Assumes nothing.
use Rattle.std.specs.Prelude.{◌≡◌, List, ℕ, ◌+◌, ◌≤◌, length}
use Rattle.specification.specs.Records.{bit_of}
use Rattle.integers.specs.Over.{over}

-- the bytes xs written over those before, from a position on, and the position behind them
pub record Written (before after : List ℕ) (at next : ℕ) (xs : List ℕ) : Type 0 where
  pub ends : next ≡ at + length xs
  pub bytes : after ≡ over before at xs

-- the bit r of a field that stands between two positions, of such a value where the field is there
pub record FieldBit (from to value r : ℕ) : Type 0 where
  pub small : r ≤ value
  pub is : (xs : List ℕ) → to ≡ from + length xs → r ≡ bit_of xs value
