-- Words in a line. Assumes nothing.
use Rattle.std.specs.Prelude.{Bool, List, ℕ, length, take, drop}
use Rattle.specification.specs.Lines.{same_bytes}

-- bytes stand at a position
unfoldable pub stands_at : (word line : List ℕ) (at : ℕ) → Bool
stands_at word line at = same_bytes (take (length word) (drop at line)) word
