-- What the program `kalzunbi` writes for a word and an input. Assumes nothing.
--
-- A refusal is told alone: its number, line and column, the line, and a mark under the place. The first word of an answer is the verdict. The word
-- `derivation` alone answers each line by itself.
use Rattle.std.specs.Prelude.{◌≡◌, Bool, true, false, ◌&&◌, ◌||◌, List, [], ◌∷◌, ◌++◌, ℕ, zero, suc, ◌+◌, ℤ, pos, negsuc, length, get_or, take, drop, ltb, leb, eqb}
use Rattle.specification.specs.Results.{Result, refused, given, ◌>>◌, when◌then◌else◌}
use Rattle.specification.specs.Letters.{scalar, test_table}
use Rattle.specification.specs.Values.{Vec}
use Rattle.specification.specs.Terms.{Form}
use Rattle.specification.specs.Records.{write_into, test_terms}
use Rattle.specification.specs.Evaluation.{value, assignment}
use Rattle.specification.specs.Decision.{Decision, holds, differs, undecided, DecidedBy}
use Rattle.specification.specs.Logs as C
use Rattle.specification.specs.Rules.{Step}
use Rattle.specification.specs.OpenLogs.{State, add_to}
use Rattle.specification.specs.Shortening.{Shortens}
use Rattle.specification.specs.Printing.{digits, print_form, alphabet, input_table}
use Rattle.specification.specs.Words.{bytes}
use Rattle.specification.specs.Text.{Placed, refused_at, placed, ◌>>=◌, place_of, skip, text_form}
use Rattle.specification.specs.Lines.{lines_of, Place, line_of, next_line, is_empty_line, to_line, at_end, Lined, refused_in, lined, in_line, ◌>>>◌, same_bytes}
use Rattle.specification.specs.Lines.{Named, is_declaration, declared, read_header}
use Rattle.specification.specs.LogTexts.{form_line, log_text, from, read_form_line, is_step_line, read_step_line, nothing_left, read_log_text, log_bytes_of}
use Rattle.specification.specs.AssignmentTexts.{none_yet, read_assigned}

-- ════ numbers and refusals in words

-- a number below 100000000000000000000 in decimal
unfoldable pub numeral : ℕ → List ℕ
numeral n = digits 20 n

-- a number with its sign
unfoldable pub signed_numeral : ℤ → List ℕ
signed_numeral (pos n) = numeral n
signed_numeral (negsuc n) = 45 ∷ numeral (suc n)

-- why a line is refused
unfoldable pub reason : ℕ → List ℕ
reason n =
    when eqb n 1 then bytes "no name, more than 24 names, or a name twice" else
    when eqb n 2 then bytes "more output than there is room for" else
    when eqb n 3 then bytes "too long or too deep" else
    when eqb n 4 then bytes "torn" else
    when eqb n 5 then bytes "a name that is not declared" else
    when eqb n 6 then bytes "kinds that do not fit" else
    when eqb n 7 then bytes "more than 48 pairs of terms" else
    when eqb n 8 then bytes "more than 6 vector letters or 2 scalar letters in a term" else
    when eqb n 9 then bytes "a coefficient beyond 2147483647" else
    when eqb n 10 then bytes "more than 48 terms" else
    when eqb n 11 then bytes "not one term" else
    bytes "not an assignment of numbers from -6 to 6 to every name"

-- so many blanks
unfoldable pub blanks : ℕ → List ℕ
blanks zero = []
blanks (suc n) = 32 ∷ blanks n

-- `refused 4 at line 2, column 3: torn`, the line, and a mark under the place; columns are told from 1 on
unfoldable pub refusal_text : (number line column : ℕ) (text : List ℕ) → List ℕ
refusal_text n k c text =
    bytes "refused " ++ numeral n ++ bytes " at line " ++ numeral k ++ bytes ", column " ++ numeral (c + 1) ++ bytes ": " ++ reason n ++ bytes "\n"
    ++ text ++ bytes "\n" ++ blanks c ++ bytes "^\n"

-- a refusal, or what was asked for
unfoldable pub answer_text : Lined (List ℕ) → List ℕ
answer_text (refused_in n k c text) = refusal_text n k c text
answer_text (lined text) = text

-- ════ reduce: the form of each formula line

-- the forms of lines behind those before, at most so many
unfoldable pub reduce_lines : (most : ℕ) (names table : List ℕ) → Place → (before : List ℕ) → Lined (List ℕ)
reduce_lines zero names table p before = lined before
reduce_lines (suc most) names table p before =
    let more : Lined (List ℕ) =
    in_line p (text_form names table (line_of p)) >>> λ f. reduce_lines most names table (to_line (next_line p)) (before ++ print_form names f.terms ++ 10 ∷ []) in
    when at_end p then lined before else more

-- the names, then the forms
unfoldable pub reduce_input : (s : List ℕ) → Lined (List ℕ)
reduce_input s = read_header s >>> λ h. reduce_lines (length s) h.0.0 h.0.1 h.1 []

-- ════ check: a log as text, replayed

-- why a log is refused at a step
unfoldable pub step_reason : ℕ → List ℕ
step_reason n =
    when eqb n 5 then bytes "a letter that is not in the table" else
    when eqb n 6 then bytes "kinds that do not fit" else
    when eqb n 8 then bytes "more than 6 vector letters or 2 scalar letters in a term" else
    when eqb n 9 then bytes "a gathered coefficient beyond 2147483647" else
    when eqb n 10 then bytes "more than 48 terms" else
    when eqb n 11 then bytes "not in the one written shape" else
    when eqb n 13 then bytes "the last form is not the one reached" else
    when eqb n 14 then bytes "more than 64 steps" else
    bytes "a table that is none"

-- `1 step`, `2 steps`
unfoldable pub count_text : ℕ → (word : List ℕ) → List ℕ
count_text n word = numeral n ++ bytes " " ++ word ++ (when eqb n 1 then [] else bytes "s")

-- `accepted, 1 step, 4 terms to 0` or `refused 9 at step 3: a gathered coefficient beyond 2147483647`
unfoldable pub checked_text : (first last : ℕ) → C.Checked → List ℕ
checked_text first last (C.refused_at n k) = bytes "refused " ++ numeral n ++ bytes " at step " ++ numeral k ++ bytes ": " ++ step_reason n ++ bytes "\n"
checked_text first last (C.accepted a b steps) =
    bytes "accepted, " ++ count_text steps (bytes "step") ++ bytes ", " ++ count_text first (bytes "term") ++ bytes " to " ++ numeral last ++ bytes "\n"

-- the checker's answer for the bytes of the log that was read
unfoldable pub check_input : (s : List ℕ) → Lined (List ℕ)
check_input s =
    read_log_text s >>> λ l. lined (checked_text (length l.first.terms) (length l.last.terms) (C.check_call l.table (log_bytes_of l)))

-- ════ pack: a log as text to the table's length byte, the table and document 01's log bytes

unfoldable pub pack_input : (s : List ℕ) → Lined (List ℕ)
pack_input s = read_log_text s >>> λ l. lined (length l.table ∷ l.table ++ log_bytes_of l)

-- ════ unpack: the table's length byte, the table and document 01's log bytes to a log as text, with the names a to x

-- the checker's tests of a log that was read, before its replay
unfoldable pub tested_log : (table : List ℕ) → C.Log → C.Checked
tested_log table log =
    C.at_step 0 (test_terms table log.first.terms) λ _.
    C.steps_letters table 1 log.steps
    (C.at_step (length log.steps + 1) (test_terms table log.last.terms) λ _.
    C.accepted 0 0 0)

-- the text of a log that passes them, or the refusal and its step
unfoldable pub tested_text : (table : List ℕ) → C.Log → C.Checked → List ℕ
tested_text table log (C.refused_at n k) = checked_text 0 0 (C.refused_at n k)
tested_text table log (C.accepted a b n) = log_text (take (length table) alphabet) table log.first log.steps log.last

-- by what reading gives
unfoldable pub unpacked_text : (table : List ℕ) → Result C.Log → List ℕ
unpacked_text table (refused n) = checked_text 0 0 (C.refused_at n 0)
unpacked_text table (given log) = tested_text table log (tested_log table log)

-- a table and a log's bytes
unfoldable pub unpack_log : (table s : List ℕ) → List ℕ
unpack_log table s = unpacked_text table (test_table table >> C.read_log s)

-- "a missing length byte or a cut table is 1"
unfoldable pub unpack_input : (s : List ℕ) → List ℕ
unpack_input s =
    when leb 1 (length s) && leb (get_or s 0 0 + 1) (length s) then unpack_log (input_table s) (drop (get_or s 0 0 + 1) s) else checked_text 0 0 (C.refused_at 1 0)

-- ════ value: a formula and an assignment line

-- three numbers of a vector, one of a scalar
unfoldable pub value_text : (kind : ℕ) → Vec → List ℕ
value_text kind v =
    when eqb kind scalar then signed_numeral v.x
    else bytes "(" ++ signed_numeral v.x ++ bytes ", " ++ signed_numeral v.y ++ bytes ", " ++ signed_numeral v.z ++ bytes ")"

-- the formula's value under the line behind it, and nothing more
unfoldable pub value_input : (s : List ℕ) → Lined (List ℕ)
value_input s =
    read_header s >>> λ h.
    (let p = h.1 in
    in_line p (text_form h.0.0 h.0.1 (line_of p)) >>> λ f.
    (let q = to_line (next_line p) in
    in_line q (read_assigned (length (line_of q)) h.0.0 h.0.1 (line_of q) (skip (line_of q) 0) (none_yet h.0.1)) >>> λ a.
    nothing_left (to_line (next_line q)) (value_text f.kind (value (assignment a) f) ++ bytes "\n")))

-- ════ decide: two formulas joined by `=`

-- an empty form has the other's kind: 6 at the sign where kinds differ
unfoldable pub paired : (at : ℕ) → Form → Form → Placed (Form × Form)
paired at f g =
    when eqb (length f.terms) 0 then placed (record { kind = g.kind; terms = [] }, g) else
    when eqb (length g.terms) 0 then placed (f, record { kind = f.kind; terms = [] }) else
    when eqb f.kind g.kind then placed (f, g) else
    refused_at 6 at

-- the forms of the two sides of the first `=`: 4 at the end of the line where there is none
unfoldable pub read_sides : (names table line : List ℕ) → Placed (Form × Form)
read_sides names table line =
    let at = place_of line 61 in
    let both : Placed (Form × Form) =
    text_form names table (take at line) >>= λ f.
    from (at + 1) (text_form names table (drop (at + 1) line)) >>= λ g.
    paired at f g in
    when ltb at (length line) then both else refused_at 4 (length line)

-- an assignment by names: `a = (0, 0, 1), m = 2`
unfoldable pub assignment_text : (names table s : List ℕ) → List ℕ
assignment_text [] table s = []
assignment_text (n ∷ names) [] s = []
assignment_text (n ∷ names) (k ∷ table) s =
    n ∷ bytes " = " ++ value_text k (assignment s 0) ++ (when eqb (length names) 0 then [] else bytes ", ") ++ assignment_text names table (drop 3 s)

-- `holds`; or `differs`, the assignment, and what each side is under it
unfoldable pub decision_text : (names table : List ℕ) (f g : Form) (s : List ℕ) → Decision → List ℕ
decision_text names table f g s holds = bytes "holds\n"
decision_text names table f g s differs =
    bytes "differs\n" ++ assignment_text names table s
    ++ bytes "\nleft = " ++ value_text f.kind (value (assignment s) f) ++ bytes "\nright = " ++ value_text g.kind (value (assignment s) g) ++ bytes "\n"
decision_text names table f g s (undecided n) = []

-- what the decision says of two forms, told: it leaves its buffer with the first assignment under which they differ
pub record DecisionTold (names table : List ℕ) (f g : Form) (text : List ℕ) : Type 0 where
  pub answer : Decision
  pub before : List ℕ
  pub buffer : List ℕ
  pub decided : DecidedBy (given (f, g)) table before [] answer buffer []
  pub is : text ≡ decision_text names table f g buffer answer

-- ════ shorten: a formula's form, the steps that shorten it and the last form, as a log's text

-- the text of a log that shortens the form
pub record ShorteningTold (names table : List ℕ) (first : Form) (text : List ℕ) : Type 0 where
  pub log : C.Log
  pub shortens : Shortens table first log
  pub is : text ≡ log_text names table log.first log.steps log.last

-- ════ derivation: names, a first form and the steps of a log that stays open (K5), a line each, and each line is answered by itself

-- a derivation while it goes on: the names and the table of their kinds; from its first form on the state of the log that is open, and the steps taken
pub data Derivation : Type 0 where
  unopened : (names table : List ℕ) → Derivation
  underway : (names : List ℕ) (first : Form) (state : State) (steps : List Step) → Derivation

-- what the line k leaves, and what is told for it, where it is read; where it is refused, the refusal, and all is as before
unfoldable pub line_read : {A : Type 0} → (k : ℕ) (line : List ℕ) (before : Derivation) → Placed A → (A → Derivation × List ℕ) → Derivation × List ℕ
line_read k line before (refused_at n c) answer = (before, refusal_text n k c line)
line_read k line before (placed a) answer = answer a

-- names, for which nothing is told
unfoldable pub names_answer : Named → Derivation × List ℕ
names_answer n = (unopened n.0 n.1, [])

-- the line of the first form: 1 where no names are declared
unfoldable pub read_first : (names table line : List ℕ) → Placed Form
read_first names table line = when leb 1 (length names) then read_form_line names table line else refused_at 1 0

-- "open with a table .. and a first form": the form is told
unfoldable pub first_answer : (names table : List ℕ) → Form → Derivation × List ℕ
first_answer names table f = (underway names f (record { table = table; count = 0; form = f }) [], form_line names f)

-- the line of a step: 4 for a line that is none
unfoldable pub read_one_step : (names table line : List ℕ) → Placed Step
read_one_step names table line = when is_step_line line then read_step_line names table line else refused_at 4 (skip line 0)

-- "A refused step leaves the log open as before": the refusal is told with the number that the step would have
unfoldable pub step_refused : (names : List ℕ) (first : Form) (state : State) (steps : List Step) (n : ℕ) → Derivation × List ℕ
step_refused names first state steps n = (underway names first state steps, checked_text 0 0 (C.refused_at n (state.count + 1)))

-- "add a step": the form reached is told, or the refusal
unfoldable pub step_answer : (names : List ℕ) (first : Form) (state : State) (steps : List Step) (step : Step) → Result State → Derivation × List ℕ
step_answer names first state steps step (refused n) = step_refused names first state steps n
step_answer names first state steps step (given next) = (underway names first next (steps ++ step ∷ []), form_line names next.form)

-- what the line k leaves, and what is told for it; "14 for a 65th step, tested before anything in that step"
unfoldable pub answer_line : (k : ℕ) (line : List ℕ) → Derivation → Derivation × List ℕ
answer_line k line (unopened names table) =
    when is_declaration line
    then line_read k line (unopened names table) (declared line (names, table)) names_answer
    else line_read k line (unopened names table) (read_first names table line) (first_answer names table)
answer_line k line (underway names first state steps) =
    when is_step_line line && leb 64 state.count
    then step_refused names first state steps 14
    else line_read k line (underway names first state steps) (read_one_step names state.table line)
    λ step. step_answer names first state steps step (add_to state (C.write_step step))

-- "blank lines are passed"
unfoldable pub pass_line : (k : ℕ) (line : List ℕ) → Derivation → Derivation × List ℕ
pass_line k line d = when is_empty_line line then (d, []) else answer_line k line d

-- what lines leave, the first of them the line k, and what is told for them behind what was told before
unfoldable pub answer_lines : (k : ℕ) (lines : List (List ℕ)) → Derivation → (before : List ℕ) → Derivation × List ℕ
answer_lines k [] d before = (d, before)
answer_lines k (line ∷ ls) d before = answer_lines (k + 1) ls (pass_line k line d).0 (before ++ (pass_line k line d).1)

-- at the end, the line k, the log behind an empty line, closed with the form reached; where none is open, what is missing
unfoldable pub end_text : (k : ℕ) → Derivation → List ℕ
end_text k (unopened names table) = (answer_line k [] (unopened names table)).1
end_text k (underway names first state steps) = bytes "\n" ++ log_text names state.table first steps state.form

-- what is told for all lines, and at the end
unfoldable pub derivation_input : (s : List ℕ) → List ℕ
derivation_input s =
    let told = answer_lines 1 (lines_of s) (unopened [] []) [] in
    told.1 ++ end_text (length (lines_of s) + 1) told.0

-- ════ one line behind the names, and nothing more

unfoldable pub read_one_line : {A : Type 0} → (read : (names table line : List ℕ) → Placed A) (s : List ℕ) → Lined (Named × A)
read_one_line read s =
    read_header s >>> λ h.
    (in_line h.1 (read h.0.0 h.0.1 (line_of h.1)) >>> λ a.
    nothing_left (to_line (next_line h.1)) (h.0, a))

-- an answer that is not fixed by what was read: the text of a refusal, or one that is right
unfoldable pub Answered : {A : Type 0} → Lined (Named × A) → (right : (names table : List ℕ) → A → (text : List ℕ) → Type 0) (text : List ℕ) → Type 0
Answered (refused_in n k c line) right text = text ≡ refusal_text n k c line
Answered (lined r) right text = right r.0.0 r.0.1 r.1 text

-- the answers to `decide`
unfoldable pub DecideAnswer : (s text : List ℕ) → Type 0
DecideAnswer s text = Answered (read_one_line read_sides s) (λ names table r. DecisionTold names table r.0 r.1) text

-- the answers to `shorten`
unfoldable pub ShortenAnswer : (s text : List ℕ) → Type 0
ShortenAnswer s text = Answered (read_one_line text_form s) ShorteningTold text

-- ════ the words

-- "no word or an unknown one: how to use it"
unfoldable pub usage : List ℕ
usage =
    bytes "kalzunbi WORD [FILE]: vector algebra in letters, proved. The input is the file or standard input, at most 65536 bytes.\n"
    ++ bytes "  reduce      names, then formulas, a line each: the form of each\n"
    ++ bytes "  decide      names, then formula = formula: holds, or an assignment under which they differ\n"
    ++ bytes "  value       names, a formula, a line like a = (1, 0, -2), m = 3: the formula's value\n"
    ++ bytes "  shorten     names, then a formula: the log that shortens it, as text\n"
    ++ bytes "  derivation  names, a form, then steps, each line answered with the form reached: the log, as text\n"
    ++ bytes "  check       a log as text: accepted, or the refusal and its step\n"
    ++ bytes "  pack        a log as text: the table's length byte, the table and the log's bytes\n"
    ++ bytes "  unpack      the table's length byte, the table and the log's bytes: the log as text\n"
    ++ bytes "Names come first, as in 'vectors a b c' and 'scalars m n'. A refusal begins with the word refused.\n"

-- a word that is known
unfoldable pub is_command : (word : List ℕ) → Bool
is_command word =
    same_bytes word (bytes "reduce") || same_bytes word (bytes "decide") || same_bytes word (bytes "value") || same_bytes word (bytes "shorten")
    || same_bytes word (bytes "check") || same_bytes word (bytes "pack") || same_bytes word (bytes "unpack") || same_bytes word (bytes "derivation")

-- the answer to a word that fixes it
unfoldable pub command_text : (word s : List ℕ) → List ℕ
command_text word s =
    when same_bytes word (bytes "reduce") then answer_text (reduce_input s) else
    when same_bytes word (bytes "value") then answer_text (value_input s) else
    when same_bytes word (bytes "check") then answer_text (check_input s) else
    when same_bytes word (bytes "pack") then answer_text (pack_input s) else
    when same_bytes word (bytes "unpack") then unpack_input s else
    when same_bytes word (bytes "derivation") then derivation_input s else
    usage

-- the one, or the other
unfoldable pub either_way : Bool → (one other : Type 0) → Type 0
either_way true one other = one
either_way false one other = other

-- a text is the answer to a word
unfoldable pub Commanded : (word s text : List ℕ) → Type 0
Commanded word s text =
    either_way (same_bytes word (bytes "decide")) (DecideAnswer s text)
    (either_way (same_bytes word (bytes "shorten")) (ShortenAnswer s text) (text ≡ command_text word s))

-- "more output than there is room for" is 2: an answer has at most so many bytes
abbrev pub answer_bytes : ℕ
answer_bytes = 65536

-- its length and the text in front of the bytes lent; 2, and they stand, where it has more than they or more than an answer has
unfoldable pub tell_into : (text out : List ℕ) → Result ℕ × List ℕ
tell_into text out =
    when leb (length text) answer_bytes && leb (length text) (length out) then (given (length text), write_into text out) else (refused 2, out)

-- the call: a word, an input and the bytes lent; the answer, and the bytes afterwards
pub record CommandAnswered (word s out : List ℕ) (answer : Result ℕ) (out' : List ℕ) : Type 0 where
  pub text : List ℕ
  pub commanded : Commanded word s text
  pub told : (answer, out') ≡ tell_into text out
