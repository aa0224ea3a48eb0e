-- The tests of the letter and of the form put in for it. Assumes nothing.
use Rattle.std.specs.Prelude.{List, ℕ, eqb}
use Rattle.specification.specs.Results.{Test, ◌>>◌, require}
use Rattle.specification.specs.Letters.{vector, test_letter}

-- 5 for a missing letter, 6 for a scalar one, 6 for a scalar form
unfoldable pub test_replaced : (table : List ℕ) (letter kind : ℕ) → Test
test_replaced table letter kind = test_letter table vector letter >> require (eqb kind vector) 6
