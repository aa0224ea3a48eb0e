-- Letters: the table, a letter's kind, and the tests of letters in byte order. Assumes nothing.
use Rattle.std.specs.Prelude.{Bool, ◌&&◌, List, [], ◌∷◌, ℕ, length, get_or, ltb, leb, eqb}
use Rattle.specification.specs.Lists.{all}
use Rattle.specification.specs.Results.{Test, given, ◌>>◌, require}

-- the kind of a scalar
abbrev pub scalar : ℕ
scalar = 0

-- the kind of a vector
abbrev pub vector : ℕ
vector = 1

-- 0 scalar, 1 vector
unfoldable pub is_kind : ℕ → Bool
is_kind b = leb b 1

-- "A table is 1 to 24 bytes, one a letter: 0 scalar, 1 vector"
unfoldable pub good_table : List ℕ → Bool
good_table table = leb 1 (length table) && leb (length table) 24 && all is_kind table

-- 1: "a table of 0 or over 24 bytes, or a byte above 1"
unfoldable pub test_table : List ℕ → Test
test_table table = require (good_table table) 1

-- the kind of the letter n
unfoldable pub kind_of : List ℕ → ℕ → ℕ
kind_of table n = get_or table n 0

-- "5 absent or 6 of the wrong kind"
unfoldable pub test_letter : (table : List ℕ) (kind n : ℕ) → Test
test_letter table kind n = do
  require (ltb n (length table)) 5
  require (eqb (kind_of table n) kind) 6

-- letters of one kind, in their order
unfoldable pub test_letters : (table : List ℕ) (kind : ℕ) (letters : List ℕ) → Test
test_letters table kind [] = given tt
test_letters table kind (n ∷ ns) = do
  test_letter table kind n
  test_letters table kind ns
