-- Worked examples of document 01 that are not starred, and of document 02, as rows of one table with one computed test: a wrong definition is refused in this crate, before any theorem stands on it.
-- Behind them K5's lists of calls, and K2's order of assignments at two letters. Assumes nothing.
use mathlib.Core.Path.{◌≡◌, refl}
use mathlib.Core.Bool.{Bool, true, false, ◌&&◌}
use mathlib.Core.List.{List, [], ◌∷◌, ◌++◌}
use Prim.Native.Nat.{ℕ, zero, suc, ◌+◌, ◌*◌, ◌<◌}
use native.Mathlib.Omega.{arith}
use lib.IntN.{ℤ, pos, negsuc}
use lib.Dec.{T, eqb}
use lib.ListN.{length, get_or}
use Rattle.specification.specs.Results.{Result, Test, refused, given, ◌>>=◌}
use Rattle.specification.specs.Lists.{all}
use Rattle.specification.specs.Values.{Vec, wedge}
use Rattle.specification.specs.Letters.{vector}
use Rattle.specification.specs.Terms.{Form, dot_of, triple_of, wedge_of, plus}
use Rattle.specification.specs.Records.{write_form, read_form}
use Rattle.specification.specs.Insertion.{with_inserted}
use Rattle.specification.specs.Rules.{sides, Step, take_step}
use Rattle.specification.specs.Evaluation.{terms_value}
use Rattle.specification.specs.Logs.{same_coef, same_form}
use Rattle.specification.specs.Decision.{whole, Before}
use Rattle.specification.specs.OpenLogs.{state_bytes, State, write_state, read_state, add_to, close_call, Call, adding, closing, run}
use Rattle.specification.specs.Printing.{print_call}
use Rattle.specification.proofs.Computing.{computing}

-- ════ the table

data Example : Type 0 where
  -- what the printer reads, and what it prints
  prints : (input text : List ℕ) → Example
  -- a form and its record
  is_record : (f : Form) (bytes : List ℕ) → Example
  -- a form of six vectors a to f, a letter, a form inserted for it, and the record that comes out
  inserts : (form : List ℕ) (letter : ℕ) (inserted bytes : List ℕ) → Example
  -- or the number that they are refused with
  insert_refused : (form : List ℕ) (letter : ℕ) (inserted : List ℕ) (number : ℕ) → Example
  -- a form, a step, and the number that it is refused with
  step_refused : (f : Form) (s : Step) (number : ℕ) → Example
  -- the bytes of an open log's state, a step's bytes, and the bytes of the state behind it
  adds : (state step next : List ℕ) → Example
  -- or the number that the step is refused with
  add_refused : (state step : List ℕ) (number : ℕ) → Example
  -- the bytes of an open log's state and of a last form, and the number that closing is refused with, 0 where it is accepted
  closes : (state form : List ℕ) (number : ℕ) → Example
  -- two vectors and their wedge
  wedges : (a b c : Vec) → Example
  -- numbers in a row, and what they assign to a letter
  assigns : (numbers : List ℕ) (letter : ℕ) (v : Vec) → Example
  -- a rule whose sides have the same value at the numbers below
  balances : (rule : ℕ) → Example

abbrev vec : ℤ → ℤ → ℤ → Vec
vec x y z = record { x = x; y = y; z = z }

-- the letters 0 to 5 as vectors of small numbers
abbrev numbers : ℕ → Vec
numbers n = vec (pos (n * n + 1)) (negsuc (3 * n)) (pos (n * n * n + 2))

-- four vectors, and (bcd)a − (acd)b + (abd)c − (abc)d, which rule 2 makes 0
abbrev four_vectors : List ℕ
four_vectors = 1 ∷ 1 ∷ 1 ∷ 1 ∷ []

abbrev four_terms : List ℕ
four_terms = 0x01 ∷ 0x04 ∷ 0x18 ∷ 1 ∷ 1 ∷ 2 ∷ 3 ∷ 0 ∷ 0x19 ∷ 0xff ∷ 0xff ∷ 0xff ∷ 0xff ∷ 1 ∷ 0 ∷ 2 ∷ 3 ∷ 1 ∷ 0x18 ∷ 1 ∷ 0 ∷ 1 ∷ 3 ∷ 2
    ∷ 0x19 ∷ 0xff ∷ 0xff ∷ 0xff ∷ 0xff ∷ 1 ∷ 0 ∷ 1 ∷ 2 ∷ 3 ∷ []

-- the state of a log with them, so many steps taken
abbrev four_state : (count : ℕ) → List ℕ
four_state count = 4 ∷ four_vectors ++ count ∷ four_terms

-- rule 2, a b c d, M = 1; and rule 3, whose sides are scalars
abbrev good_step : List ℕ
good_step = 2 ∷ 0 ∷ 1 ∷ 2 ∷ 3 ∷ 0 ∷ []

abbrev unlike_step : List ℕ
unlike_step = 3 ∷ 0 ∷ 1 ∷ 2 ∷ 3 ∷ 0 ∷ 0 ∷ []

-- the record of the empty form, to which rule 2 leads, and the state behind that step
abbrev empty_form : List ℕ
empty_form = 0x01 ∷ 0 ∷ []

abbrev behind_good : List ℕ
behind_good = 4 ∷ four_vectors ++ 1 ∷ empty_form

examples : List Example
examples =
    -- "03 01 01 01 08 01 00 08 01 01 01 02 prints `(a.c)*b-(a.b)*c` and a newline"
    prints (3 ∷ 1 ∷ 1 ∷ 1 ∷ 8 ∷ 1 ∷ 0 ∷ 8 ∷ 1 ∷ 1 ∷ 1 ∷ 2 ∷ []) (40 ∷ 97 ∷ 46 ∷ 99 ∷ 41 ∷ 42 ∷ 98 ∷ 45 ∷ 40 ∷ 97 ∷ 46 ∷ 98 ∷ 41 ∷ 42 ∷ 99 ∷ 10 ∷ [])
    -- "The empty form prints 0": a∧a
    ∷ prints (1 ∷ 1 ∷ 8 ∷ 1 ∷ 0 ∷ 1 ∷ 0 ∷ []) (48 ∷ 10 ∷ [])
    -- "document 000 prints nothing for the constant 1": it is `1`
    ∷ prints (1 ∷ 0 ∷ 2 ∷ 0 ∷ 0 ∷ 0 ∷ 1 ∷ []) (49 ∷ 10 ∷ [])
    -- "The sign of a triple sorted by three exchanges is lost": (cba) is `-(abc)`
    ∷ prints (3 ∷ 1 ∷ 1 ∷ 1 ∷ 9 ∷ 1 ∷ 2 ∷ 1 ∷ 1 ∷ 1 ∷ 0 ∷ []) (45 ∷ 40 ∷ 97 ∷ 98 ∷ 99 ∷ 41 ∷ 10 ∷ [])
    -- "Lists compare by length first": a∧c + b is `b+(a^c)`
    ∷ prints (3 ∷ 1 ∷ 1 ∷ 1 ∷ 3 ∷ 8 ∷ 1 ∷ 0 ∷ 1 ∷ 2 ∷ 1 ∷ 1 ∷ []) (98 ∷ 43 ∷ 40 ∷ 97 ∷ 94 ∷ 99 ∷ 41 ∷ 10 ∷ [])
    -- and so do lists of factors: cd + (a·b), with scalars c and d, is `(a.b)+cd`
    ∷ prints (4 ∷ 1 ∷ 1 ∷ 0 ∷ 0 ∷ 3 ∷ 6 ∷ 1 ∷ 2 ∷ 1 ∷ 3 ∷ 7 ∷ 1 ∷ 0 ∷ 1 ∷ 1 ∷ []) (40 ∷ 97 ∷ 46 ∷ 98 ∷ 41 ∷ 43 ∷ 99 ∷ 100 ∷ 10 ∷ [])
    -- "a refusal R and its decimal number, as `R5`": the letter b of a table of one letter
    ∷ prints (1 ∷ 1 ∷ 1 ∷ 1 ∷ []) (82 ∷ 53 ∷ 10 ∷ [])
    -- "a missing length byte or a cut table is 1"
    ∷ prints [] (82 ∷ 49 ∷ 10 ∷ [])
    ∷ prints (2 ∷ 1 ∷ []) (82 ∷ 49 ∷ 10 ∷ [])
    -- "−2(a·b)*(c∧d) alone is 01 01 25 FF FF FF FE 01 00 01 02 03"
    ∷ is_record (record { kind = vector; terms = record { coef = negsuc 1; factors = dot_of 0 1 ∷ []; part = wedge_of 2 3 } ∷ [] })
    (0x01 ∷ 0x01 ∷ 0x25 ∷ 0xff ∷ 0xff ∷ 0xff ∷ 0xfe ∷ 0x01 ∷ 0x00 ∷ 0x01 ∷ 0x02 ∷ 0x03 ∷ [])
    -- "coefficient, four bytes signed, left out exactly when it is 1": a alone is 01 01 10 00
    ∷ is_record (record { kind = vector; terms = plus [] (0 ∷ []) ∷ [] }) (0x01 ∷ 0x01 ∷ 0x10 ∷ 0x00 ∷ [])
    -- K1, "that letter has the inserted form's value": 2a for a in a is 2a, and not 4a
    ∷ inserts (0x01 ∷ 0x01 ∷ 0x10 ∷ 0x00 ∷ []) 0 (0x01 ∷ 0x01 ∷ 0x11 ∷ 0x00 ∷ 0x00 ∷ 0x00 ∷ 0x02 ∷ 0x00 ∷ []) (0x01 ∷ 0x01 ∷ 0x11 ∷ 0x00 ∷ 0x00 ∷ 0x00 ∷ 0x02 ∷ 0x00 ∷ [])
    -- a∧b for a in (a·c)b is (abc)b
    ∷ inserts (0x01 ∷ 0x01 ∷ 0x14 ∷ 0x01 ∷ 0x00 ∷ 0x02 ∷ 0x01 ∷ []) 0 (0x01 ∷ 0x01 ∷ 0x20 ∷ 0x00 ∷ 0x01 ∷ []) (0x01 ∷ 0x01 ∷ 0x18 ∷ 0x01 ∷ 0x00 ∷ 0x01 ∷ 0x02 ∷ 0x01 ∷ [])
    -- "multiplied from the left": in 2147483647(a·b)(abc), 2(d·d)(e·e)f for a is 9 at the first product; the triple alone would be 8
    ∷ insert_refused (0x00 ∷ 0x01 ∷ 0x0d ∷ 0x7f ∷ 0xff ∷ 0xff ∷ 0xff ∷ 0x01 ∷ 0x00 ∷ 0x01 ∷ 0x01 ∷ 0x00 ∷ 0x01 ∷ 0x02 ∷ []) 0
    (0x01 ∷ 0x01 ∷ 0x15 ∷ 0x00 ∷ 0x00 ∷ 0x00 ∷ 0x02 ∷ 0x02 ∷ 0x03 ∷ 0x03 ∷ 0x04 ∷ 0x04 ∷ 0x05 ∷ []) 9
    -- "5 for a missing letter", also where the form inserted is the empty scalar form
    ∷ insert_refused (0x01 ∷ 0x00 ∷ []) 6 (0x00 ∷ 0x00 ∷ []) 5
    -- K4: ((a·a)(a·a)a)∧((b·b)a) "was refused 8 although it is zero"
    ∷ prints (2 ∷ 1 ∷ 1 ∷ 8 ∷ 6 ∷ 6 ∷ 7 ∷ 1 ∷ 0 ∷ 1 ∷ 0 ∷ 7 ∷ 1 ∷ 0 ∷ 1 ∷ 0 ∷ 1 ∷ 0 ∷ 6 ∷ 7 ∷ 1 ∷ 1 ∷ 1 ∷ 1 ∷ 1 ∷ 0 ∷ []) (48 ∷ 10 ∷ [])
    -- "tested neither for letters nor coefficient": 2147483647a∧2a
    ∷ prints (1 ∷ 1 ∷ 8 ∷ 6 ∷ 2 ∷ 0x7f ∷ 0xff ∷ 0xff ∷ 0xff ∷ 1 ∷ 0 ∷ 6 ∷ 2 ∷ 0 ∷ 0 ∷ 0 ∷ 2 ∷ 1 ∷ 0 ∷ []) (48 ∷ 10 ∷ [])
    -- "of a pair giving two terms, each is judged alone": ((d·d)(a∧b))∧((d·d)(a∧c)) is (d·d)(d·d)(abc)a, of eight letters
    ∷ prints (4 ∷ 1 ∷ 1 ∷ 1 ∷ 1 ∷ 8 ∷ 6 ∷ 7 ∷ 1 ∷ 3 ∷ 1 ∷ 3 ∷ 8 ∷ 1 ∷ 0 ∷ 1 ∷ 1 ∷ 6 ∷ 7 ∷ 1 ∷ 3 ∷ 1 ∷ 3 ∷ 8 ∷ 1 ∷ 0 ∷ 1 ∷ 2 ∷ []) (82 ∷ 56 ∷ 10 ∷ [])
    -- like terms that cancel have not vanished: 2147483647(a+b)∧2(a+b)
    ∷ prints (2 ∷ 1 ∷ 1 ∷ 8 ∷ 6 ∷ 2 ∷ 0x7f ∷ 0xff ∷ 0xff ∷ 0xff ∷ 3 ∷ 1 ∷ 0 ∷ 1 ∷ 1 ∷ 6 ∷ 2 ∷ 0 ∷ 0 ∷ 0 ∷ 2 ∷ 3 ∷ 1 ∷ 0 ∷ 1 ∷ 1 ∷ []) (82 ∷ 57 ∷ 10 ∷ [])
    -- 7 counts every pair: 49, of which 42 stay, in (a+b+c+d+e+f+g)∧(a+b+c+d+e+f+g)
    ∷ prints (7 ∷ 1 ∷ 1 ∷ 1 ∷ 1 ∷ 1 ∷ 1 ∷ 1 ∷ 8 ∷ 3 ∷ 1 ∷ 0 ∷ 3 ∷ 1 ∷ 1 ∷ 3 ∷ 1 ∷ 2 ∷ 3 ∷ 1 ∷ 3 ∷ 3 ∷ 1 ∷ 4 ∷ 3 ∷ 1 ∷ 5 ∷ 1 ∷ 6 ∷
    3 ∷ 1 ∷ 0 ∷ 3 ∷ 1 ∷ 1 ∷ 3 ∷ 1 ∷ 2 ∷ 3 ∷ 1 ∷ 3 ∷ 3 ∷ 1 ∷ 4 ∷ 3 ∷ 1 ∷ 5 ∷ 1 ∷ 6 ∷ []) (82 ∷ 55 ∷ 10 ∷ [])
    -- "Steps in a log still count beforehand": rule 1 with a a a a, times (abc), would vanish
    ∷ step_refused (record { kind = vector; terms = [] }) (record { rule = 1; letters = 0 ∷ 0 ∷ 0 ∷ 0 ∷ []; m = plus (triple_of 0 1 2 ∷ []) [] }) 8
    -- K5: the table's length, the table, the count and the form's record; the next state has one step more and the form reached, here the empty one
    ∷ adds (four_state 0) good_step behind_good
    -- "admissible at the form reached": the kinds do not agree
    ∷ add_refused (four_state 0) unlike_step 6
    -- "14 for a 65th step, tested before anything in that step": no byte of it is there; a count of 65 breaks a rule
    ∷ add_refused (four_state 64) [] 14
    ∷ add_refused (four_state 65) [] 11
    -- "refused 11 before all else": the letter b of a table of one letter, in the state and in the form to close with
    ∷ closes (1 ∷ 1 ∷ 0 ∷ 1 ∷ 1 ∷ 0x10 ∷ 1 ∷ []) (1 ∷ 1 ∷ 0x10 ∷ 1 ∷ []) 11
    -- closing with the form reached
    ∷ closes (four_state 3) four_terms 0
    -- "a∧b is (a2b3−a3b2, a3b1−a1b3, a1b2−a2b1)"
    ∷ wedges (vec (pos 1) (pos 2) (pos 3)) (vec (pos 4) (pos 5) (pos 7)) (vec (negsuc 0) (pos 5) (negsuc 2))
    -- K2, "whole numbers", "letter by letter and component by component"
    ∷ assigns (0 ∷ 1 ∷ 2 ∷ 300 ∷ 250 ∷ 5 ∷ []) 1 (vec (pos 300) (pos 250) (pos 5))
    -- "The five rules"
    ∷ balances 1
    ∷ balances 2
    ∷ balances 3
    ∷ balances 4
    ∷ balances 5
    ∷ []

-- ════ the test

same : List ℕ → List ℕ → Bool
same [] [] = true
same [] (y ∷ ys) = false
same (x ∷ xs) [] = false
same (x ∷ xs) (y ∷ ys) = eqb x y && same xs ys

same_vec : Vec → Vec → Bool
same_vec a b = same_coef a.x b.x && same_coef a.y b.y && same_coef a.z b.z

is_form : Result Form → Form → Bool
is_form (refused n) f = false
is_form (given g) f = same_form g f

is_number : Result Form → ℕ → Bool
is_number (refused n) m = eqb n m
is_number (given f) m = false

six_vectors : List ℕ
six_vectors = 1 ∷ 1 ∷ 1 ∷ 1 ∷ 1 ∷ 1 ∷ []

has_record : Result Form → List ℕ → Bool
has_record (refused n) bytes = false
has_record (given f) bytes = same (write_form f) bytes

has_state : Result State → List ℕ → Bool
has_state (refused n) bytes = false
has_state (given state) bytes = same (write_state state) bytes

is_state : Result State → ℕ → Bool
is_state (refused n) m = eqb n m
is_state (given state) m = false

passes : Test → ℕ → Bool
passes (refused n) m = eqb n m
passes (given u) m = eqb 0 m

-- the example holds
example_holds : Example → Bool
example_holds (prints input text) = same (print_call input) text
example_holds (is_record f bytes) = same (write_form f) bytes && is_form (read_form bytes) f
example_holds (inserts form letter inserted bytes) = has_record (with_inserted six_vectors form letter inserted) bytes
example_holds (insert_refused form letter inserted n) = is_number (with_inserted six_vectors form letter inserted) n
example_holds (step_refused f s n) = is_number (take_step f s) n
example_holds (adds state step next) = has_state (read_state state >>= λ before. add_to before step) next
example_holds (add_refused state step n) = is_state (read_state state >>= λ before. add_to before step) n
example_holds (closes state form n) = passes (close_call state form) n
example_holds (wedges a b c) = same_vec (wedge a b) c
example_holds (assigns numbers letter v) = same_vec (whole numbers letter) v
example_holds (balances rule) =
    let s = sides rule (0 ∷ 1 ∷ 2 ∷ 3 ∷ 4 ∷ 5 ∷ []) in same_vec (terms_value numbers s.left) (terms_value numbers s.right)

examples-hold : T (all example_holds examples)
unfolding examples example_holds same same_vec is_form is_number six_vectors has_record has_state is_state passes computing
examples-hold = tt

-- ════ K5: closing, and lists of calls

-- the empty form has the value of the form reached, and is another
closing-another : close_call (four_state 3) empty_form ≡ refused 13
unfolding computing
closing-another = refl

zeros : ℕ → List ℕ
zeros zero = []
zeros (suc n) = 0 ∷ zeros n

-- how many steps were taken by calls after an opening, and whether the state is as given
leaves : (calls : List Call) (state : List ℕ) → ℕ × Bool
leaves calls state = let log = run (record { state = four_state 0; steps = [] }) calls in (length log.steps, same log.state state)

-- "A refused step leaves the log open as before"
refused_step-stands : leaves (adding unlike_step (zeros state_bytes) ∷ adding good_step (zeros state_bytes) ∷ []) behind_good ≡ (1, true)
unfolding leaves zeros same computing
refused_step-stands = refl

-- "So does a refused closing";
refused_closing-stands : leaves (closing empty_form ∷ adding good_step (zeros state_bytes) ∷ []) behind_good ≡ (1, true)
unfolding leaves zeros same computing
refused_closing-stands = refl

-- "an accepted one ends the list"
accepted-closing-ends : leaves (closing four_terms ∷ adding good_step (zeros state_bytes) ∷ []) (four_state 0) ≡ (0, true)
unfolding leaves zeros same computing
accepted-closing-ends = refl

-- ════ K2: the order of assignments

-- a = (0, 0, 5), b = (9, 9, 9) comes before a = (0, 1, 0), b = (0, 0, 0): the second number decides
lower : List ℕ
lower = 0 ∷ 0 ∷ 5 ∷ 9 ∷ 9 ∷ 9 ∷ []

higher : List ℕ
higher = 0 ∷ 1 ∷ 0 ∷ 0 ∷ 0 ∷ 0 ∷ []

lower_first : Before 6 lower higher
unfolding lower higher
lower_first = record { place = 1; inside = omega arith; alike = only; less = omega arith }
  where
    only : (i : ℕ) → i < 1 → get_or lower i 0 ≡ get_or higher i 0
    only zero h = refl
    only (suc i) h = absurd (omega arith)

higher-not : ¬ Before 6 higher lower
unfolding lower higher
higher-not w = go w.place w.alike w.less
  where
    go : (n : ℕ) → ((i : ℕ) → i < n → get_or higher i 0 ≡ get_or lower i 0) → get_or higher n 0 < get_or lower n 0 → ⊥
    go zero a l = omega arith
    go (suc zero) a l = omega arith
    go (suc (suc n)) a l = let e : ◌≡◌ {A = ℕ} 1 0 = a 1 (omega arith) in omega arith
