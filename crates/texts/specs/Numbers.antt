-- Numbers in decimal as they are read: beyond 2147483647 one number stands for all. Assumes nothing.
use Rattle.std.specs.Prelude.{◌≡◌, List, ℕ, length, leb}
use Rattle.specification.specs.Results.{when◌then◌else◌}
use Rattle.specification.specs.Text.{read_digits}
use Rattle.texts.specs.declared.Number.{Number}

-- the number, or one that no constant may have
unfoldable pub capped : ℕ → ℕ
capped n = when leb n 2147483647 then n else 2147483648

-- the number that begins at a position, capped, and the position behind it
pub record NumberRead (s : List ℕ) (at : ℕ) (r : Number) : Type 0 where
  pub value : r.value ≡ capped (read_digits (length s) 0 s at).0
  pub next : r.next ≡ (read_digits (length s) 0 s at).1
