-- Numbers for the variables, one after the other from the lowest on: what the functions ask and promise. Assumes nothing.
use Rattle.std.specs.Prelude.{◌≡◌, true, false, ◌&&◌, ◌||◌, ◌⊎◌, List, ℕ, zero, suc, ◌*◌, ◌/◌, ◌%◌, ◌^◌, ◌≤◌, ◌<◌, ltb, eqb, ℤ, pos, length, get_or, take, drop}
use Rattle.specification.specs.Decision.{buffer_bytes, Before}
use Rattle.algebra.specs.Integers.{NonZero}
use Rattle.specification.specs.Results.{when◌then◌else◌}
use Rattle.specification.specs.Letters.{vector, kind_of}
use Rattle.theory.specs.Elements.{All}
use Rattle.polynomials.specs.Keys.{Ordered, tally}
use Rattle.polynomials.specs.Summands.{Summand, total, size, substituted, is_some, Rising}

-- ════ variables of a table

-- the largest number for a variable that a form can have: 6 for a component of a vector, 2 for a scalar
unfoldable pub most_of : (table : List ℕ) (x : ℕ) → ℕ
most_of table x = when eqb (kind_of table (x / 3)) vector then 6 else 2

-- the largest number in an assignment: a scalar letter's other two are 0
unfoldable pub limit_of : (table : List ℕ) (x : ℕ) → ℕ
limit_of table x = when eqb (kind_of table (x / 3)) vector then 6 else when eqb (x % 3) 0 then 2 else 0

-- 1 for the digit of a component of a vector
unfoldable pub vector_digit : (table : List ℕ) (digit : ℕ) → ℕ
vector_digit table zero = 0
vector_digit table (suc x) = when eqb (kind_of table (x / 3)) vector then 1 else 0

-- 1 for the digit of a scalar letter
unfoldable pub scalar_digit : (table : List ℕ) (digit : ℕ) → ℕ
scalar_digit table zero = 0
scalar_digit table (suc x) = when eqb (kind_of table (x / 3)) vector then 0 else 1

-- 1 for a digit that is no variable of a form
unfoldable pub strange_digit : (table : List ℕ) (digit : ℕ) → ℕ
strange_digit table zero = 0
strange_digit table (suc x) = when ltb x (3 * length table) && (eqb (kind_of table (x / 3)) vector || eqb (x % 3) 0) then 0 else 1

-- a key that forms make: in order, with at most v variables of vectors and s of scalars
pub record Has (table : List ℕ) (v s : ℕ) (key : ℕ) : Type 0 where
  pub ordered : Ordered 1 8 key
  pub vectors : tally (vector_digit table) 8 key ≤ v
  pub scalars : tally (scalar_digit table) 8 key ≤ s
  pub known : tally (strange_digit table) 8 key ≡ 0

-- what a key can come to: 6 for each variable of a vector, 2 for each of a scalar
unfoldable pub weight : (table : List ℕ) (key : ℕ) → ℕ
weight table key = 6 ^ tally (vector_digit table) 8 key * 2 ^ tally (scalar_digit table) 8 key

-- 3456 · 2147483647 · 6^6 · 2^2, which is below 2^61
abbrev pub bound : ℕ
bound = 3456 * 2147483647 * 186624

-- ════ what the functions ask and promise

-- a polynomial of the difference of two forms that is not 0
pub record Polynomial (table : List ℕ) (ms : List Summand) : Type 0 where
  pub rising : Rising 0 ms
  pub some : is_some ms ≡ true
  pub has : All (λ (m : Summand). Has table 6 2 m.key) ms
  pub small : size (weight table) ms ≤ bound

-- r is the first number up to `most` that leaves a summand, or `most`
pub record FirstNumber (ms : List Summand) (d most r : ℕ) : Type 0 where
  pub few : r ≤ most
  pub before : (v : ℕ) → v < r → is_some (substituted d v ms) ≡ false
  pub found : (is_some (substituted d r ms) ≡ true) ⊎ (r ≡ most)

-- the first n summands are such a polynomial, and the buffer has room for a number for each variable
pub record Eliminable (table : List ℕ) (n : ℕ) (ms : List Summand) (buffer : List ℕ) : Type 0 where
  pub letters : length table ≤ 24
  pub there : n ≤ length ms
  pub room : buffer_bytes ≤ length buffer
  pub polynomial : Polynomial table (take n ms)

-- no number is chosen yet: each is 0
unfoldable pub Unchosen : (table buffer : List ℕ) → Type 0
Unchosen table buffer = (x : ℕ) → x < 3 * length table → get_or buffer x 0 ≡ 0

-- σ gives each variable of the table the number at its place
unfoldable pub Gives : (table s : List ℕ) (σ : ℕ → ℤ) → Type 0
Gives table s σ = (x : ℕ) → x < 3 * length table → σ x ≡ pos (get_or s x 0)

-- under all numbers before those of b it is 0
unfoldable pub ZeroBefore : (table : List ℕ) (ms : List Summand) (b : List ℕ) → Type 0
ZeroBefore table ms b = (s : List ℕ) (σ : ℕ → ℤ) → Gives table s σ → Before (3 * length table) s b → total σ ms ≡ pos 0

-- the first numbers under which it is not 0: up to their limits, and under all before them it is 0
pub record First (table : List ℕ) (ms : List Summand) (b : List ℕ) : Type 0 where
  pub within : (x : ℕ) → x < 3 * length table → get_or b x 0 ≤ limit_of table x
  pub nonzero : (σ : ℕ → ℤ) → Gives table b σ → NonZero (total σ ms)
  pub earliest : ZeroBefore table ms b

-- they are chosen and written, and the bytes behind them stand
pub record Eliminated (table : List ℕ) (ms : List Summand) (buffer buffer' : List ℕ) : Type 0 where
  pub same_length : length buffer' ≡ length buffer
  pub behind : drop (3 * length table) buffer' ≡ drop (3 * length table) buffer
  pub first : First table ms buffer'
