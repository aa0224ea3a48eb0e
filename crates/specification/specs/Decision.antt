-- The decision: its refusals, and what holds of its answer and of every byte lent. Assumes nothing.
use Rattle.std.specs.Prelude.{◌≡◌, Bool, ◌&&◌, List, ℕ, ◌+◌, ◌*◌, ◌<◌, pos, length, get_or, drop, T, leb, eqb}
use Rattle.specification.specs.Lists.{each}
use Rattle.specification.specs.Results.{Result, refused, given, ◌>>=◌, ◌>>◌, require, when◌then◌else◌}
use Rattle.specification.specs.Values.{Vec}
use Rattle.specification.specs.Letters.{scalar, kind_of, test_table}
use Rattle.specification.specs.Terms.{Form}
use Rattle.specification.specs.Records.{take_both}
use Rattle.specification.specs.Evaluation.{value, rest_is_zero, assignment}

-- "It says that the identity holds, or that it differs", or it is refused with its number
pub data Decision : Type 0 where
  holds : Decision
  differs : Decision
  undecided : ℕ → Decision

-- "a 72-byte buffer"
abbrev pub buffer_bytes : ℕ
buffer_bytes = 72

-- "55,296 work bytes"
abbrev pub work_bytes : ℕ
work_bytes = 55296

-- two forms taken, then "two forms of unlike kind decided: 6"
unfoldable pub take_two_forms : (table s t : List ℕ) → Result (Form × Form)
take_two_forms table s t = do
  (f, g) ← take_both table s t
  require (eqb f.kind g.kind) 6
  given (f, g)

-- the tests of the call in their order: 1, 2, then contents
unfoldable pub decide_tested : (table s t buffer work : List ℕ) → Result (Form × Form)
decide_tested table s t buffer work = do
  test_table table
  require (leb buffer_bytes (length buffer) && leb work_bytes (length work)) 2
  take_two_forms table s t

-- the three numbers of a letter: "each number 0 to 6, scalar letters 0 to 2", a scalar letter's other two 0
unfoldable pub letter_in_range : (table s : List ℕ) (n : ℕ) → Bool
letter_in_range table s n =
    let first = get_or s (3 * n) 0 in
    let second = get_or s (3 * n + 1) 0 in
    let third = get_or s (3 * n + 2) 0 in
    when eqb (kind_of table n) scalar
    then leb first 2 && eqb second 0 && eqb third 0
    else leb first 6 && leb second 6 && leb third 6

-- an assignment "in whole numbers from 0 up": the numbers in a row, three a letter
unfoldable pub whole : (s : List ℕ) (n : ℕ) → Vec
whole s n = record {
  x = pos (get_or s (3 * n) 0);
  y = pos (get_or s (3 * n + 1) 0);
  z = pos (get_or s (3 * n + 2) 0);
}

-- s comes before t, "letter by letter and component by component": at the first of n places where they differ s has the lesser number
pub record Before (n : ℕ) (s t : List ℕ) : Type 0 where
  pub place : ℕ
  pub inside : place < n
  pub alike : (i : ℕ) → i < place → get_or s i 0 ≡ get_or t i 0
  pub less : get_or s place 0 < get_or t place 0

-- refused: "All lent memory stands"
pub record Stands (buffer work buffer' work' : List ℕ) : Type 0 where
  pub buffer_stands : buffer' ≡ buffer
  pub work_stands : work' ≡ work

-- holds: equal under every assignment; "the buffer stands"
pub record Holds (f g : Form) (buffer buffer' : List ℕ) : Type 0 where
  pub equal : (σ : ℕ → Vec) → value σ f ≡ value σ g
  pub buffer_stands : buffer' ≡ buffer

-- differs: the first 3 times (letters) bytes are an assignment under which the values differ, "exactly the first": under every assignment in whole numbers
-- before it, a scalar letter's other two 0, they are equal; "the other bytes of the buffer stand"
pub record Differs (table : List ℕ) (f g : Form) (buffer buffer' : List ℕ) : Type 0 where
  pub same_length : length buffer' ≡ length buffer
  pub in_range : T (each (length table) (letter_in_range table buffer'))
  pub unequal : ¬ (value (assignment buffer') f ≡ value (assignment buffer') g)
  pub first : (s : List ℕ) → T (each (length table) (rest_is_zero table s)) → Before (3 * length table) s buffer' → value (whole s) f ≡ value (whole s) g
  pub rest_stands : drop (3 * length table) buffer' ≡ drop (3 * length table) buffer

-- what holds by the tests and by the answer; the work bytes are free after holds and after differs
unfoldable pub DecidedBy : (tested : Result (Form × Form)) (table buffer work : List ℕ) (answer : Decision) (buffer' work' : List ℕ) → Type 0
DecidedBy (refused n) table buffer work holds buffer' work' = ⊥
DecidedBy (refused n) table buffer work differs buffer' work' = ⊥
DecidedBy (refused n) table buffer work (undecided m) buffer' work' = (m ≡ n) × Stands buffer work buffer' work'
DecidedBy (given p) table buffer work holds buffer' work' = Holds p.0 p.1 buffer buffer'
DecidedBy (given p) table buffer work differs buffer' work' = Differs table p.0 p.1 buffer buffer'
DecidedBy (given p) table buffer work (undecided m) buffer' work' = ⊥

-- the call: table, two forms, buffer, work bytes; the answer, and the buffer and the work bytes afterwards
unfoldable pub Decided : (table s t buffer work : List ℕ) (answer : Decision) (buffer' work' : List ℕ) → Type 0
Decided table s t buffer work answer buffer' work' =
    DecidedBy (decide_tested table s t buffer work) table buffer work answer buffer' work'
