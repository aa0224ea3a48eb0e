-- Formulas as text: names, the grammar, the form of a text. Assumes nothing.
--
-- A reader stands at a position of the text where no blank is; behind the text it sees 0, which begins nothing.
-- It gives a tree and the position behind it, past blanks, or a refusal with its column, counted from 0.
-- A loop makes at most as many turns as the text has bytes: each turn passes one.
use Rattle.std.specs.Prelude.{Bool, true, false, not, ◌&&◌, ◌||◌, List, [], ◌∷◌, ℕ, zero, suc, ◌+◌, ◌*◌, ◌-◌, pos, length, get_or, drop, ltb, leb, eqb}
use Rattle.specification.specs.Lists.{all}
use Rattle.specification.specs.Results as R
use Rattle.specification.specs.Results.{Result, Test, refused, given, ◌>>◌, require, when◌then◌else◌}
use Rattle.specification.specs.Letters.{kind_of, test_table}
use Rattle.specification.specs.Terms.{Form}
use Rattle.specification.specs.Expressions.{Expr, Letter, Constant, Sum, Difference, Negation, Times, Dot, Wedge, Triple}
use Rattle.specification.specs.Records.{form_bytes, write_form, write_into, take_form}
use Rattle.specification.specs.Reduction.{work}
use Rattle.specification.specs.Printing.{line_bytes, print_form}

-- ════ refusals with a column

-- a refusal with its number and its column, or a result
pub data Placed (A : Type 0) : Type 0 where
  refused_at : (number column : ℕ) → Placed A
  placed : A → Placed A

-- `x ← r` in a `do` block: the rest goes on with the result
infixl 2 ◌>>=◌
abbrev pub ◌>>=◌ : {A B : Type 0} → Placed A → (A → Placed B) → Placed B
refused_at n c >>= k = refused_at n c
placed a >>= k = k a

-- ════ names

-- a to z and A to Z
unfoldable pub is_letter : ℕ → Bool
is_letter b = leb 65 b && leb b 90 || leb 97 b && leb b 122

-- none stands twice
unfoldable pub distinct : List ℕ → Bool
distinct [] = true
distinct (n ∷ names) = all (λ m. not (eqb n m)) names && distinct names

-- "names are single letters a to z and A to Z, declared in the order that gives their numbers", one for each letter of the table, "none twice"
unfoldable pub good_names : (names table : List ℕ) → Bool
good_names names table = eqb (length names) (length table) && all is_letter names && distinct names

-- the number of a name; the number of names where it is not declared
unfoldable pub place_of : (names : List ℕ) (b : ℕ) → ℕ
place_of [] b = 0
place_of (n ∷ names) b = let behind = suc (place_of names b) in when eqb n b then 0 else behind

-- ════ trees with columns

-- a letter or a number, a sign in front, an operator between two, a triple; each with its column
pub data Tree : Type 0 where
  leaf : (column : ℕ) → Expr → Tree
  turned : (column : ℕ) → Tree → Tree
  two : (column : ℕ) (op : Expr → Expr → Expr) → Tree → Tree → Tree
  three : (column : ℕ) → Tree → Tree → Tree → Tree

-- the tree of document 01
unfoldable pub plain : Tree → Expr
plain (leaf c e) = e
plain (turned c x) = Negation (plain x)
plain (two c op x y) = op (plain x) (plain y)
plain (three c x y z) = Triple (plain x) (plain y) (plain z)

-- what working gives, or its number with a column
unfoldable pub at_column : {A : Type 0} → (column : ℕ) → Result A → Placed A
at_column c (refused n) = refused_at n c
at_column c (given a) = placed a

-- working is refused
unfoldable pub is_refused : {A : Type 0} → Result A → Bool
is_refused (refused n) = true
is_refused (given a) = false

-- "for working: the operator's": the operator whose operands are worked and which is refused, operands left to right
unfoldable pub blamed : Tree → ℕ
blamed (leaf c e) = c
blamed (turned c x) = blamed x
blamed (two c op x y) = when is_refused (work (plain x)) then blamed x else when is_refused (work (plain y)) then blamed y else c
blamed (three c x y z) =
    when is_refused (work (plain x)) then blamed x else when is_refused (work (plain y)) then blamed y else when is_refused (work (plain z)) then blamed z else c

-- the form of a tree, or working's refusal at its operator
unfoldable pub worked : Tree → Placed Form
worked t = at_column (blamed t) (work (plain t))

-- ════ bytes at a position

-- the byte at a position, 0 behind the text
abbrev pub byte_at : List ℕ → ℕ → ℕ
byte_at s at = get_or s at 0

-- past blanks, at most so many
unfoldable pub past_blanks : (most : ℕ) (s : List ℕ) (at : ℕ) → ℕ
past_blanks zero s at = at
past_blanks (suc most) s at = let next = past_blanks most s (at + 1) in when eqb (byte_at s at) 32 then next else at

-- "blanks between tokens are free"
unfoldable pub skip : (s : List ℕ) (at : ℕ) → ℕ
skip s at = past_blanks (length s) s at

-- behind a token of one byte
unfoldable pub next : (s : List ℕ) (at : ℕ) → ℕ
next s at = skip s (at + 1)

-- 0 to 9
unfoldable pub is_digit : ℕ → Bool
is_digit b = leb 48 b && leb b 57

-- ════ the grammar

-- what a reader gives: a tree and the position behind it
abbrev pub Read : Type 0
Read = Placed (Tree × ℕ)

-- a number that goes on, in at most so many digits, and the position behind it
unfoldable pub read_digits : (most n : ℕ) (s : List ℕ) (at : ℕ) → ℕ × ℕ
read_digits zero n s at = (n, at)
read_digits (suc most) n s at =
    let more = read_digits most (n * 10 + (byte_at s at - 48)) s (at + 1) in when is_digit (byte_at s at) then more else (n, at)

-- three names and a closing parenthesis
unfoldable pub is_triple : (s : List ℕ) (at : ℕ) → Bool
is_triple s at =
    is_letter (byte_at s at) && is_letter (byte_at s (next s at)) && is_letter (byte_at s (next s (next s at)))
    && eqb (byte_at s (next s (next s (next s at)))) 41

-- a product goes on with `*`, or side by side with a name or a parenthesis; a number stands "only first in a product or behind `*`"
unfoldable pub is_factor : ℕ → Bool
is_factor b = eqb b 42 || is_letter b || eqb b 40

-- a sum goes on with `+` or `-`
unfoldable pub is_sign : ℕ → Bool
is_sign b = eqb b 43 || eqb b 45

-- the operator of a sign
unfoldable pub signed : ℕ → Expr → Expr → Expr
signed b = when eqb b 45 then Difference else Sum

-- the sign turned
unfoldable pub turned_at : (at : ℕ) → Tree × ℕ → Read
turned_at at r = placed (turned at r.0, r.1)

module _ (s : List ℕ) where
  -- "numbers in decimal": beyond 2147483647 working refuses them
  unfoldable pub read_number : (at : ℕ) → Read
  read_number at = let r = read_digits (length s) 0 s at in placed (leaf at (Constant (pos r.0)), skip s r.1)

  -- a closing parenthesis behind a sum
  unfoldable pub closed : Tree × ℕ → Read
  closed r = when eqb (byte_at s r.1) 41 then placed (r.0, next s r.1) else refused_at 4 r.1

  -- behind a mark the second operand
  unfoldable pub read_second : (mark : ℕ) (op : Expr → Expr → Expr) (operand : ℕ → Read) → Tree × ℕ → Read
  read_second mark op operand r =
      let both : Read = operand (next s r.1) >>= (λ q. placed (two r.1 op r.0 q.0, q.1)) in
      when eqb (byte_at s r.1) mark then both else placed r

  -- one operand, or two with a mark between them
  unfoldable pub read_pair : (mark : ℕ) (op : Expr → Expr → Expr) (first second : ℕ → Read) (at : ℕ) → Read
  read_pair mark op first second at = first at >>= read_second mark op second

  -- behind a `*`, or where the factor stands side by side
  unfoldable pub factor_at : (at : ℕ) → ℕ
  factor_at at = when eqb (byte_at s at) 42 then next s at else at

  -- nothing may be left behind the sum
  unfoldable pub whole_text : Tree × ℕ → Placed Tree
  whole_text r = when leb (length s) r.1 then placed r.0 else refused_at 4 r.1

module _ (names table s : List ℕ) where
  -- a name: 5 where it is not declared
  unfoldable pub read_name : (at : ℕ) → Read
  read_name at =
      let n = place_of names (byte_at s at) in
      when ltb n (length names) then placed (leaf at (Letter n (kind_of table n)), next s at) else refused_at 5 at

  -- "`(abc)` exactly three names in parentheses: a triple"
  unfoldable pub read_triple : (at : ℕ) → Read
  read_triple at = do
    (x, second) ← read_name (next s at)
    (y, third) ← read_name second
    (z, close) ← read_name third
    placed (three at x y z, next s close)

  -- what stands in parentheses
  unfoldable pub read_bracket : (sum : ℕ → Read) (at : ℕ) → Read
  read_bracket sum at =
      let triple : Read = read_triple at in
      let group : Read = sum (next s at) >>= closed s in
      when is_triple s (next s at) then triple else group

  -- a name, or what stands in parentheses, which `bracket` reads
  unfoldable pub read_atom : (bracket : ℕ → Read) (at : ℕ) → Read
  read_atom bracket at =
      let b = byte_at s at in
      let group : Read = bracket at in
      when is_letter b then read_name at else when eqb b 40 then group else refused_at 4 at

  -- what is first in a product or behind `*`: a number may stand there
  unfoldable pub read_lead : (bracket : ℕ → Read) (at : ℕ) → Read
  read_lead bracket at =
      let other : Read = read_atom bracket at in
      when is_digit (byte_at s at) then read_number s at else other

  -- "`^` binds closest"
  unfoldable pub read_wedge : (bracket : ℕ → Read) (first : ℕ → Read) (at : ℕ) → Read
  read_wedge bracket first = read_pair s 94 Wedge first (read_atom bracket)

  -- "then `.`"
  unfoldable pub read_dot : (bracket : ℕ → Read) (at : ℕ) → Read
  read_dot bracket = read_pair s 46 Dot (read_wedge bracket (read_lead bracket)) (read_wedge bracket (read_atom bracket))

  -- further factors, at most so many
  unfoldable pub more_factors : (most : ℕ) (bracket : ℕ → Read) (x : Tree) (at : ℕ) → Read
  more_factors zero bracket x at = placed (x, at)
  more_factors (suc most) bracket x at =
      let more : Read = read_dot bracket (factor_at s at) >>= (λ r. more_factors most bracket (two at Times x r.0) r.1) in
      when is_factor (byte_at s at) then more else placed (x, at)

  -- "product by `*` or by standing side by side"
  unfoldable pub read_product : (bracket : ℕ → Read) (at : ℕ) → Read
  read_product bracket at = read_dot bracket at >>= (λ r. more_factors (length s) bracket r.0 r.1)

  -- further terms, at most so many
  unfoldable pub more_terms : (most : ℕ) (bracket : ℕ → Read) (x : Tree) (at : ℕ) → Read
  more_terms zero bracket x at = placed (x, at)
  more_terms (suc most) bracket x at =
      let more : Read = read_product bracket (next s at) >>= (λ r. more_terms most bracket (two at (signed (byte_at s at)) x r.0) r.1) in
      when is_sign (byte_at s at) then more else placed (x, at)

  -- "`+`, `-` (also in front)"
  unfoldable pub read_first : (bracket : ℕ → Read) (at : ℕ) → Read
  read_first bracket at =
      let minus : Read = read_product bracket (next s at) >>= turned_at at in
      let plus : Read = read_product bracket (next s at) in
      let none : Read = read_product bracket at in
      when eqb (byte_at s at) 45 then minus else when eqb (byte_at s at) 43 then plus else none

  -- "a formula is sums of products"
  unfoldable pub read_sum : (bracket : ℕ → Read) (at : ℕ) → Read
  read_sum bracket at = read_first bracket at >>= (λ r. more_terms (length s) bracket r.0 r.1)

  -- parentheses with so much depth left: 3 where none is
  unfoldable pub read_nested : (depth at : ℕ) → Read
  read_nested zero at = refused_at 3 at
  read_nested (suc depth) at = read_bracket (read_sum (read_nested depth)) at

  -- "parentheses nest at most 16 deep, a line has at most 4,096 bytes"
  unfoldable pub read_text : Placed Tree
  read_text =
      let read : Placed Tree = read_sum (read_nested 16) (skip s 0) >>= whole_text s in
      when leb (length s) 4096 then read else refused_at 3 4096

  -- the form of a text, or a refusal with its column: reading precedes working
  unfoldable pub text_form : Placed Form
  text_form = read_text >>= worked

-- ════ the call that reads a text

-- names are the caller's as the table is: 1 where they do not fit it
unfoldable pub test_names : (names table : List ℕ) → Test
test_names names table = require (good_names names table) 1

-- 1 of the table, 1 of the names, then 2: memory for the record, and a number for the column
unfoldable pub text_tested : (table names out columns : List ℕ) → Test
text_tested table names out columns = do
  test_table table
  test_names names table
  require (leb form_bytes (length out) && leb 1 (length columns)) 2

-- by the tests: a refused call leaves all memory; a refused text tells its column in the first number lent; a form's record goes in front of the memory lent
unfoldable pub text_answer : Test → Placed Form → (out columns : List ℕ) → Result ℕ × List ℕ × List ℕ
text_answer (refused n) x out columns = (refused n, out, columns)
text_answer (given u) (refused_at n c) out columns = (refused n, out, c ∷ drop 1 columns)
text_answer (given u) (placed f) out columns = (given (length (write_form f)), write_into (write_form f) out, columns)

-- the call: table, names and a text; the length of the form's record or the refusal, and all memory lent, afterwards
unfoldable pub text_call : (table names s out columns : List ℕ) → Result ℕ × List ℕ × List ℕ
text_call table names s out columns = text_answer (text_tested table names out columns) (text_form names table s) out columns

-- ════ the call that prints a form

-- 1 of the table, 1 of the names, 2 of memory for a line, then the form's own tests
unfoldable pub print_named_tested : (table names form out : List ℕ) → Result Form
print_named_tested table names form out = do
  test_table table
  test_names names table
  require (leb line_bytes (length out)) 2
  take_form table form

-- the text of the form and its length in front of the memory lent; or the number, and the memory stands
unfoldable pub print_named_answer : (names : List ℕ) → Result Form → (out : List ℕ) → Result ℕ × List ℕ
print_named_answer names (refused n) out = (refused n, out)
print_named_answer names (given f) out = (given (length (print_form names f.terms)), write_into (print_form names f.terms) out)

-- the call: table, names and a form's record; "the printer's text with the declared names"
unfoldable pub print_named_call : (table names form out : List ℕ) → Result ℕ × List ℕ
print_named_call table names form out = print_named_answer names (print_named_tested table names form out) out
