-- The first numbers of several polynomials, kept in a buffer: what the functions promise, and what is known of all so far. Assumes nothing.
use Rattle.std.specs.Prelude.{◌≡◌, Bool, true, false, List, [], ℕ, ◌*◌, ◌≤◌, ◌<◌, ℤ, pos, length, get_or, drop}
use Rattle.algebra.specs.Integers.{NonZero}
use Rattle.specification.specs.Decision.{Before}
use Rattle.polynomials.specs.Summands.{Summand, total}
use Rattle.elimination.specs.Elimination.{limit_of, Gives, ZeroBefore, Eliminated}

-- ════ what the functions promise

-- the answer says whether s comes before t
pub record IsBefore (n : ℕ) (s t : List ℕ) (r : Bool) : Type 0 where
  pub yes : r ≡ true → Before n s t
  pub no : r ≡ false → ¬ Before n s t

-- numbers stand in the buffer: those of one more polynomial are written where they come before them
pub data Lowered (table : List ℕ) (ms : List Summand) (buffer buffer' : List ℕ) : Type 0 where
  earlier : Before (3 * length table) buffer' buffer → Eliminated table ms buffer buffer' → Lowered table ms buffer buffer'
  later : buffer' ≡ buffer → ZeroBefore table ms buffer → Lowered table ms buffer buffer'

-- one more polynomial: it has no summand, or its numbers are the only ones, or they are written where they come before those that stand
pub data Kept (table : List ℕ) (ms : List Summand) (found : Bool) (buffer : List ℕ) (r : Bool) (buffer' : List ℕ) : Type 0 where
  none : ms ≡ [] → r ≡ found → buffer' ≡ buffer → Kept table ms found buffer r buffer'
  only : found ≡ false → r ≡ true → Eliminated table ms buffer buffer' → Kept table ms found buffer r buffer'
  least : found ≡ true → r ≡ true → Lowered table ms buffer buffer' → Kept table ms found buffer r buffer'

-- ════ what is known of the first i of several polynomials, with the buffer as it was lent and as it is

-- all of them are 0
pub record NoneSoFar (P : ℕ → List Summand) (i : ℕ) (lent b : List ℕ) : Type 0 where
  pub zeros : (j : ℕ) → j < i → (σ : ℕ → ℤ) → total σ (P j) ≡ pos 0
  pub stands : b ≡ lent

-- the numbers in the buffer are the first under which one of them is not 0: under all before them every one is 0
pub record FirstSoFar (table : List ℕ) (P : ℕ → List Summand) (i : ℕ) (lent b : List ℕ) : Type 0 where
  pub same_length : length b ≡ length lent
  pub behind : drop (3 * length table) b ≡ drop (3 * length table) lent
  pub within : (x : ℕ) → x < 3 * length table → get_or b x 0 ≤ limit_of table x
  pub which : ℕ
  pub is_one : which < i
  pub nonzero : (σ : ℕ → ℤ) → Gives table b σ → NonZero (total σ (P which))
  pub earliest : (j : ℕ) → j < i → ZeroBefore table (P j) b

-- one or the other, by whether one is found that is not 0
unfoldable pub SoFar : (table : List ℕ) (P : ℕ → List Summand) (i : ℕ) (found : Bool) (lent b : List ℕ) → Type 0
SoFar table P i false lent b = NoneSoFar P i lent b
SoFar table P i true lent b = FirstSoFar table P i lent b
