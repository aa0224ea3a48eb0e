-- The printer and the text of a shortening: from standard input to standard output. Assumes nothing.
use Rattle.std.specs.Prelude.{◌≡◌, Bool, true, false, not, ◌&&◌, ◌||◌, List, [], ◌∷◌, ◌++◌, map, ℕ, zero, suc, ◌+◌, ◌/◌, ◌%◌, ◌≤◌, ℤ, pos, negsuc, nat_abs, length, get_or, take, drop, ltb, leb, eqb}
use Rattle.specification.specs.Lists.{joined}
use Rattle.specification.specs.Results.{Result, refused, given, ◌>>◌, require, when◌then◌else◌}
use Rattle.specification.specs.Letters.{test_table}
use Rattle.specification.specs.Terms.{Term, Form}
use Rattle.specification.specs.Records.{write_into}
use Rattle.specification.specs.Reduction.{reduced}
use Rattle.specification.specs.Rules.{Step}
use Rattle.specification.specs.Logs.{Log}
use Rattle.specification.specs.Shortening.{Shortens}

-- ════ a form

-- the name of a letter: names in the order of their numbers
abbrev pub name_of : (names : List ℕ) (n : ℕ) → ℕ
name_of names n = get_or names n 0

-- "Letter numbers 0 to 23 print as a to x"
abbrev pub alphabet : List ℕ
alphabet =
    97 ∷ 98 ∷ 99 ∷ 100 ∷ 101 ∷ 102 ∷ 103 ∷ 104 ∷ 105 ∷ 106 ∷ 107 ∷ 108 ∷ 109 ∷ 110 ∷ 111 ∷ 112 ∷ 113 ∷ 114 ∷ 115 ∷ 116 ∷ 117 ∷ 118 ∷ 119 ∷ 120 ∷ []

-- a number in decimal, in at most so many digits
unfoldable pub digits : (most n : ℕ) → List ℕ
digits zero n = []
digits (suc most) n = when ltb n 10 then (48 + n) ∷ [] else digits most (n / 10) ++ (48 + n % 10) ∷ []

-- a number below 10000000000 in decimal
unfoldable pub decimal : ℕ → List ℕ
decimal n = digits 10 n

-- nothing is written
unfoldable pub is_nothing : List ℕ → Bool
is_nothing [] = true
is_nothing (b ∷ bs) = false

-- the size of the coefficient: "A coefficient of 1 or −1 is not written unless nothing else is"
unfoldable pub print_size : (coef : ℤ) (others : List ℕ) → List ℕ
print_size k others = when eqb (nat_abs k) 1 && not (is_nothing others) then [] else decimal (nat_abs k)

-- "`*` follows any written coefficient or scalar part before a vector part"
unfoldable pub print_star : (before part : List ℕ) → List ℕ
print_star before part = when is_nothing before || is_nothing part then [] else 42 ∷ []

-- the sign of the first term is written where it is `-`
unfoldable pub print_first_sign : ℤ → List ℕ
print_first_sign (pos n) = []
print_first_sign (negsuc n) = 45 ∷ []

-- "terms are joined by their signs"
unfoldable pub print_sign : ℤ → List ℕ
print_sign (pos n) = 43 ∷ []
print_sign (negsuc n) = 45 ∷ []

-- a form with these names of letters
module _ (names : List ℕ) where
  -- a scalar letter `e`, "a dot as `(a.b)`, a triple as `(abc)`"
  unfoldable pub print_factor : List ℕ → List ℕ
  print_factor [] = []
  print_factor (a ∷ []) = name_of names a ∷ []
  print_factor (a ∷ b ∷ []) = 40 ∷ name_of names a ∷ 46 ∷ name_of names b ∷ 41 ∷ []
  print_factor (a ∷ b ∷ c ∷ f) = 40 ∷ name_of names a ∷ name_of names b ∷ name_of names c ∷ 41 ∷ []

  -- a letter `a`, "a wedge as `(a^b)`"
  unfoldable pub print_part : List ℕ → List ℕ
  print_part [] = []
  print_part (a ∷ []) = name_of names a ∷ []
  print_part (a ∷ b ∷ p) = 40 ∷ name_of names a ∷ 94 ∷ name_of names b ∷ 41 ∷ []

  -- "a term is coefficient, factors, vector part", here without its sign
  unfoldable pub print_term : Term → List ℕ
  print_term t =
      let scalars = joined (map print_factor t.factors) in
      let part = print_part t.part in
      let size = print_size t.coef (scalars ++ part) in
      size ++ scalars ++ print_star (size ++ scalars) part ++ part

  -- terms behind the first
  unfoldable pub print_terms : List Term → List ℕ
  print_terms [] = []
  print_terms (t ∷ ts) = print_sign t.coef ++ print_term t ++ print_terms ts

  -- "The empty form prints 0"
  unfoldable pub print_form : List Term → List ℕ
  print_form [] = 48 ∷ []
  print_form (t ∷ ts) = print_first_sign t.coef ++ print_term t ++ print_terms ts

-- ════ the printer's call

-- a form's line fits into so many bytes
abbrev pub line_bytes : ℕ
line_bytes = 1393

-- the table behind its length byte
abbrev pub input_table : (s : List ℕ) → List ℕ
input_table s = take (get_or s 0 0) (drop 1 s)

-- "the table's length byte, table and expression from standard input; a missing length byte or a cut table is 1"
unfoldable pub print_tested : (s : List ℕ) → Result Form
print_tested s = do
  require (leb 1 (length s)) 1
  require (leb (get_or s 0 0 + 1) (length s)) 1
  test_table (input_table s)
  reduced (input_table s) (drop (get_or s 0 0 + 1) s)

-- the form, or "a refusal R and its decimal number", "each with a newline"
unfoldable pub print_result : Result Form → List ℕ
print_result (refused n) = 82 ∷ decimal n ++ 10 ∷ []
print_result (given f) = print_form alphabet f.terms ++ 10 ∷ []

-- the bytes written to standard output
unfoldable pub print_call : (s : List ℕ) → List ℕ
print_call s = print_result (print_tested s)

-- the text's length and the text in front of the memory lent; memory that is too short for a line is 2, and stands
unfoldable pub print_answer : (s memory : List ℕ) → Result ℕ × List ℕ
print_answer s memory =
    when leb line_bytes (length memory) then (given (length (print_call s)), write_into (print_call s) memory) else (refused 2, memory)

-- ════ the text of a log: the first form, each step, the last form, each on a line

-- `rule 2:`
unfoldable pub print_rule : ℕ → List ℕ
print_rule rule = 114 ∷ 117 ∷ 108 ∷ 101 ∷ 32 ∷ decimal rule ++ 58 ∷ []

-- steps with these names of letters
module _ (names : List ℕ) where
  -- ` a b c d`
  unfoldable pub print_letters : List ℕ → List ℕ
  print_letters [] = []
  print_letters (n ∷ ns) = 32 ∷ name_of names n ∷ print_letters ns

  -- `, M = 1` and a newline: M as the form of this one term
  unfoldable pub print_multiplier : Term → List ℕ
  print_multiplier m = 44 ∷ 32 ∷ 77 ∷ 32 ∷ 61 ∷ 32 ∷ print_form names (m ∷ []) ++ 10 ∷ []

  -- `rule 2: a b c d, M = 1` and a newline
  unfoldable pub print_step : Step → List ℕ
  print_step s = print_rule s.rule ++ print_letters s.letters ++ print_multiplier s.m

  -- the steps, each on its line
  unfoldable pub print_steps : List Step → List ℕ
  print_steps ss = joined (map print_step ss)

-- the line of the first form, those of the steps, that of the last form
unfoldable pub print_log : Log → List ℕ
print_log log = print_result (given log.first) ++ print_steps alphabet log.steps ++ print_result (given log.last)

-- ════ the call of the program shorten, which reads what the printer reads

-- the text of a shortening fits into so many bytes
abbrev pub lines_bytes : ℕ
lines_bytes = 5426

-- a text in front of the memory lent, and its length
pub record TextWritten (before after : List ℕ) (count : ℕ) (text : List ℕ) : Type 0 where
  pub ends : count ≡ length text
  pub bytes : after ≡ write_into text before

-- the text of a log that shortens the form
pub record ShorteningPrinted (table : List ℕ) (first : Form) (before after : List ℕ) (count : ℕ) : Type 0 where
  pub log : Log
  pub shortens : Shortens table first log
  pub text : TextWritten before after count (print_log log)

-- by what reduction gives: the text of a shortening, or the printer's line of a refusal
unfoldable pub PrintedBy : (r : Result Form) (table before after : List ℕ) (count : ℕ) → Type 0
PrintedBy (refused n) table before after count = TextWritten before after count (print_result (refused n))
PrintedBy (given first) table before after count = ShorteningPrinted table first before after count

-- what holds of the answer, by whether the memory lent is long enough: refused with 2 and nothing written, or the text and its length
unfoldable pub LinesPrintedBy : (enough : Bool) (s before : List ℕ) (answer : Result ℕ) (after : List ℕ) → Type 0
LinesPrintedBy true s before (given count) after = PrintedBy (print_tested s) (input_table s) before after count
LinesPrintedBy true s before (refused n) after = ⊥
LinesPrintedBy false s before (given count) after = ⊥
LinesPrintedBy false s before (refused n) after = (n ≡ 2) × (after ≡ before)

-- the call: what was read, and the memory lent; the answer, and the memory afterwards
unfoldable pub LinesPrinted : (s before : List ℕ) (answer : Result ℕ) (after : List ℕ) → Type 0
LinesPrinted s before answer after = LinesPrintedBy (leb lines_bytes (length before)) s before answer after
