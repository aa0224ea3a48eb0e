-- The first words of a refusal. Assumes nothing.
use Rattle.std.specs.Prelude.{List, ◌++◌, ℕ, ◌+◌}
use Rattle.specification.specs.Words.{bytes}
use Rattle.specification.specs.Commands.{numeral}

-- its number, line and column
unfoldable pub place_text : (number line column : ℕ) → List ℕ
place_text n k c = bytes "refused " ++ numeral n ++ bytes " at line " ++ numeral k ++ bytes ", column " ++ numeral (c + 1)
