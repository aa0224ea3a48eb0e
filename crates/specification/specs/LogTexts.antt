-- Logs as text: a first line with the names, the first form, one line a step, the last form, each form with its kind. Assumes nothing.
use Rattle.std.specs.Prelude.{Bool, true, false, ◌&&◌, List, [], ◌∷◌, ◌++◌, map, ℕ, zero, suc, ◌+◌, ◌-◌, length, get_or, drop, ltb, leb, eqb}
use Rattle.specification.specs.Results.{when◌then◌else◌}
use Rattle.specification.specs.Letters.{scalar, vector}
use Rattle.specification.specs.Terms.{Term, Form}
use Rattle.specification.specs.Rules.{Step, rule_letters, is_rule}
use Rattle.specification.specs.Logs.{write_log}
use Rattle.specification.specs.Printing.{name_of, print_form, print_steps}
use Rattle.specification.specs.Words.{bytes}
use Rattle.specification.specs.Text.{Placed, refused_at, placed, ◌>>=◌, is_letter, place_of, skip, next, text_form}
use Rattle.specification.specs.Lines.{Place, line_of, next_line, to_line, at_end, Lined, refused_in, lined, in_line, ◌>>>◌, is_word_at, Named, read_header}

-- ════ written

-- `vectors` or `scalars`
unfoldable pub kinds_word : (kind : ℕ) → List ℕ
kinds_word kind = when eqb kind scalar then bytes "scalars" else bytes "vectors"

-- names behind those of a kind: a word where the kind is another
unfoldable pub write_names : (kind : ℕ) (names table : List ℕ) → List ℕ
write_names kind [] table = []
write_names kind (n ∷ names) [] = []
write_names kind (n ∷ names) (k ∷ table) =
    (when eqb k kind then [] else 32 ∷ kinds_word k) ++ 32 ∷ n ∷ write_names k names table

-- "a first line with the names": `vectors w r u scalars m`
unfoldable pub names_line : (names table : List ℕ) → List ℕ
names_line names table = kinds_word (get_or table 0 0) ++ write_names (get_or table 0 0) names table ++ 10 ∷ []

-- `vector` or `scalar`
unfoldable pub kind_word : (kind : ℕ) → List ℕ
kind_word kind = when eqb kind scalar then bytes "scalar" else bytes "vector"

-- "each form with its kind": `vector (a.c)*b-(a.b)*c`
unfoldable pub form_line : (names : List ℕ) → Form → List ℕ
form_line names f = kind_word f.kind ++ 32 ∷ print_form names f.terms ++ 10 ∷ []

-- the text of a log
unfoldable pub log_text : (names table : List ℕ) (first : Form) (steps : List Step) (last : Form) → List ℕ
log_text names table first steps last = names_line names table ++ form_line names first ++ print_steps names steps ++ form_line names last

-- ════ read

-- a column of a part of a line that begins at a position
unfoldable pub from : {A : Type 0} → (at : ℕ) → Placed A → Placed A
from at (refused_at n c) = refused_at n (at + c)
from at (placed a) = placed a

-- a formula with its kind: an empty form has the kind that is told; another has its own, 6 at the formula where it is not the one told
unfoldable pub of_kind : (kind at : ℕ) → Form → Placed Form
of_kind kind at f =
    when eqb (length f.terms) 0 then placed (record { kind = kind; terms = [] }) else
    when eqb f.kind kind then placed f else
    refused_at 6 at

-- the formula behind a word of a line
unfoldable pub kind_at : (names table line : List ℕ) (kind at : ℕ) → Placed Form
kind_at names table line kind at = from at (text_form names table (drop at line)) >>= of_kind kind at

-- `vector` or `scalar`, then a formula
unfoldable pub read_form_line : (names table line : List ℕ) → Placed Form
read_form_line names table line =
    let at = skip line 0 in
    let vectors : Placed Form = kind_at names table line vector (skip line (at + 6)) in
    let scalars : Placed Form = kind_at names table line scalar (skip line (at + 6)) in
    when is_word_at (bytes "vector") line at then vectors else
    when is_word_at (bytes "scalar") line at then scalars else
    refused_at 4 at

-- a byte that has to stand here, and the position behind it
unfoldable pub mark : (b : ℕ) (line : List ℕ) (at : ℕ) → Placed ℕ
mark b line at = when eqb (get_or line at 0) b then placed (next line at) else refused_at 4 at

-- so many names, and the position behind them: 4 where no letter stands, 5 where it is not declared
unfoldable pub read_letters_at : (count : ℕ) (names line : List ℕ) (at : ℕ) → Placed (List ℕ × ℕ)
read_letters_at zero names line at = placed ([], at)
read_letters_at (suc count) names line at =
    let b = get_or line at 0 in
    let n = place_of names b in
    let more : Placed (List ℕ × ℕ) = read_letters_at count names line (next line at) >>= λ r. placed (n ∷ r.0, r.1) in
    when is_letter b then (when ltb n (length names) then more else refused_at 5 at) else refused_at 4 at

-- M is one term: 11 at the formula where it is not
unfoldable pub one_term : (at : ℕ) → Form → Placed Term
one_term at f = go f.terms
  where
    go : List Term → Placed Term
    go [] = refused_at 11 at
    go (t ∷ []) = placed t
    go (t ∷ u ∷ ts) = refused_at 11 at

-- a line that begins with the word `rule`
unfoldable pub is_step_line : List ℕ → Bool
is_step_line line = is_word_at (bytes "rule") line (skip line 0)

-- `rule 2: a b c d, M = 1`: the rule's number is one digit, 1 to 5
unfoldable pub read_step_line : (names table line : List ℕ) → Placed Step
read_step_line names table line =
    let at = skip line (skip line 0 + 4) in
    let rule = get_or line at 0 - 48 in
    let step : Placed Step =
    mark 58 line (next line at) >>= λ letters.
    read_letters_at (rule_letters rule) names line letters >>= λ r.
    mark 44 line r.1 >>= λ m.
    mark 77 line m >>= λ equals.
    mark 61 line equals >>= λ formula.
    from formula (text_form names table (drop formula line)) >>= λ f.
    one_term formula f >>= λ t.
    placed (record { rule = rule; letters = r.0; m = t }) in
    when leb 49 (get_or line at 0) && leb (get_or line at 0) 53 then step else refused_at 4 at

-- the lines of steps behind those before, at most so many, and where the others begin; 3 where one more is a step
unfoldable pub read_step_lines : (most : ℕ) (names table : List ℕ) → Place → (before : List Step) → Lined (List Step × Place)
read_step_lines zero names table p before =
    when is_step_line (line_of p) then refused_in 3 p.0 0 (line_of p) else lined (before, p)
read_step_lines (suc most) names table p before =
    let more : Lined (List Step × Place) =
    in_line p (read_step_line names table (line_of p)) >>> λ s. read_step_lines most names table (to_line (next_line p)) (before ++ s ∷ []) in
    when is_step_line (line_of p) then more else lined (before, p)

-- what a text of a log says
pub record LogRead : Type 0 where
  pub names : List ℕ
  pub table : List ℕ
  pub first : Form
  pub steps : List Step
  pub last : Form

-- nothing but empty lines stands from a place on: 4 where something does
unfoldable pub nothing_left : {A : Type 0} → Place → A → Lined A
nothing_left p a = when at_end p then lined a else refused_in 4 p.0 0 (line_of p)

-- the first form, the steps and the last form
unfoldable pub read_log_lines : (names table : List ℕ) → Place → Lined LogRead
read_log_lines names table p =
    in_line p (read_form_line names table (line_of p)) >>> λ first.
    read_step_lines 64 names table (to_line (next_line p)) [] >>> λ r.
    in_line r.1 (read_form_line names table (line_of r.1)) >>> λ last.
    nothing_left (to_line (next_line r.1)) (record { names = names; table = table; first = first; steps = r.0; last = last })

-- a log as text
unfoldable pub read_log_text : (s : List ℕ) → Lined LogRead
read_log_text s = read_header s >>> λ h. read_log_lines h.0.0 h.0.1 h.1

-- its bytes
unfoldable pub log_bytes_of : LogRead → List ℕ
log_bytes_of l = write_log l.first l.steps l.last
