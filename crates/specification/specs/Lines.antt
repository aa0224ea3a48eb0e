-- Lines of a text, and the names declared in front of it. Assumes nothing.
--
-- A place is the number of a line, from 1, and all bytes from its first on. What is refused in a line is told with the line's number and text.
use Rattle.std.specs.Prelude.{Bool, true, false, ◌&&◌, ◌||◌, List, [], ◌∷◌, ◌++◌, ℕ, zero, suc, ◌+◌, length, get_or, take, drop, ltb, leb, eqb}
use Rattle.specification.specs.Lists.{all}
use Rattle.specification.specs.Results.{when◌then◌else◌}
use Rattle.specification.specs.Letters.{scalar, vector}
use Rattle.specification.specs.Words.{bytes}
use Rattle.specification.specs.Text.{Placed, refused_at, placed, is_letter, place_of, skip, next}

-- ════ lines

-- the bytes before the first newline
unfoldable pub first_line : List ℕ → List ℕ
first_line [] = []
first_line (b ∷ s) = let more = b ∷ first_line s in when eqb b 10 then [] else more

-- all behind it
unfoldable pub behind_line : List ℕ → List ℕ
behind_line [] = []
behind_line (b ∷ s) = let more = behind_line s in when eqb b 10 then s else more

-- a byte in front of the first of lines
unfoldable pub in_front : ℕ → List (List ℕ) → List (List ℕ)
in_front b [] = (b ∷ []) ∷ []
in_front b (line ∷ ls) = (b ∷ line) ∷ ls

-- all lines of a text: each ends at a newline, the last one there or at the end
unfoldable pub lines_of : List ℕ → List (List ℕ)
lines_of [] = []
lines_of (b ∷ s) = let more = in_front b (lines_of s) in when eqb b 10 then [] ∷ lines_of s else more

-- where a line begins: its number, and all from it on
abbrev pub Place : Type 0
Place = ℕ × List ℕ

-- the line at a place
abbrev pub line_of : Place → List ℕ
line_of p = first_line p.1

-- where the next line begins
abbrev pub next_line : Place → Place
next_line p = (p.0 + 1, behind_line p.1)

-- a line of blanks alone
unfoldable pub is_empty_line : List ℕ → Bool
is_empty_line line = all (λ b. eqb b 32) line

-- nothing stands from the place on
unfoldable pub at_end : Place → Bool
at_end p = eqb (length p.1) 0

-- past empty lines, at most so many
unfoldable pub past_empty : (most : ℕ) → Place → Place
past_empty zero p = p
past_empty (suc most) p =
    let more : Place = past_empty most (next_line p) in
    when at_end p then p else when is_empty_line (line_of p) then more else p

-- "blank lines are passed"
unfoldable pub to_line : Place → Place
to_line p = past_empty (length p.1) p

-- the first place of a text
abbrev pub beginning : List ℕ → Place
beginning s = to_line (1, s)

-- ════ what is refused in a line

-- a refusal with its number, the line's number, the column and the line, or a result
pub data Lined (A : Type 0) : Type 0 where
  refused_in : (number line column : ℕ) (text : List ℕ) → Lined A
  lined : A → Lined A

-- the rest goes on with the result
infixl 2 ◌>>>◌
abbrev pub ◌>>>◌ : {A B : Type 0} → Lined A → (A → Lined B) → Lined B
refused_in n k c t >>> f = refused_in n k c t
lined a >>> f = f a

-- what a line gives, or its refusal with the place
unfoldable pub in_line : {A : Type 0} → Place → Placed A → Lined A
in_line p (refused_at n c) = refused_in n p.0 c (line_of p)
in_line p (placed a) = lined a

-- ════ words in a line

-- the same bytes
unfoldable pub same_bytes : List ℕ → List ℕ → Bool
same_bytes [] [] = true
same_bytes [] (y ∷ ys) = false
same_bytes (x ∷ xs) [] = false
same_bytes (x ∷ xs) (y ∷ ys) = eqb x y && same_bytes xs ys

-- a word stands at a position, and a blank or nothing behind it
unfoldable pub is_word_at : (word line : List ℕ) (at : ℕ) → Bool
is_word_at word line at =
    same_bytes (take (length word) (drop at line)) word && (eqb (get_or line (at + length word) 0) 32 || leb (length line) (at + length word))

-- ════ names

-- names in their order, and the table of their kinds
abbrev pub Named : Type 0
Named = List ℕ × List ℕ

-- "names are single letters a to z and A to Z, declared in the order that gives their numbers": the words `vectors` and `scalars` say the kind of those behind them;
-- "at most 24 names, none twice": 1 at the name
unfoldable pub read_names : (most kind : ℕ) (line : List ℕ) (at : ℕ) → Named → Placed Named
read_names zero kind line at n = placed n
read_names (suc most) kind line at n =
    let b = get_or line at 0 in
    let vectors : Placed Named = read_names most vector line (skip line (at + 7)) n in
    let scalars : Placed Named = read_names most scalar line (skip line (at + 7)) n in
    let one : Placed Named = read_names most kind line (next line at) (n.0 ++ b ∷ [], n.1 ++ kind ∷ []) in
    when leb (length line) at then placed n else
    when is_word_at (bytes "vectors") line at then vectors else
    when is_word_at (bytes "scalars") line at then scalars else
    when is_letter b && is_word_at (b ∷ []) line at
    then (when ltb (place_of n.0 b) (length n.0) || leb 24 (length n.0) then refused_at 1 at else one)
    else refused_at 4 at

-- a line that begins with one of the two words
unfoldable pub is_declaration : List ℕ → Bool
is_declaration line = is_word_at (bytes "vectors") line (skip line 0) || is_word_at (bytes "scalars") line (skip line 0)

-- the names of a line
unfoldable pub declared : List ℕ → Named → Placed Named
declared line n = read_names (length line) vector line (skip line 0) n

-- the lines in front that declare names, at most so many, and where the others begin
unfoldable pub read_declared : (most : ℕ) → Place → Named → Lined (Named × Place)
read_declared zero p n = lined (n, p)
read_declared (suc most) p n =
    let more : Lined (Named × Place) = in_line p (declared (line_of p) n) >>> λ m. read_declared most (to_line (next_line p)) m in
    when is_declaration (line_of p) then more else lined (n, p)

-- names are declared: 1 at the first other line where there are none
unfoldable pub some_names : Named × Place → Lined (Named × Place)
some_names r = when leb 1 (length r.0.0) then lined r else refused_in 1 r.1.0 0 (line_of r.1)

-- the names of a text, and where its other lines begin
unfoldable pub read_header : List ℕ → Lined (Named × Place)
read_header s = read_declared (length s) (beginning s) ([], []) >>> some_names
