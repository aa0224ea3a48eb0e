-- Shortening: its refusals, and what holds of its answer and of every byte lent (demand 3). Assumes nothing.
use Rattle.std.specs.Prelude.{◌≡◌, List, ℕ, ◌+◌, ◌≤◌, length, take, drop, leb}
use Rattle.specification.specs.Results.{Result, refused, given, ◌>>◌, require}
use Rattle.specification.specs.Letters.{test_table}
use Rattle.specification.specs.Terms.{Form}
use Rattle.specification.specs.Records.{read_form, take_form}
use Rattle.specification.specs.Rules.{Step, step_at}
use Rattle.specification.specs.Logs.{Log, read_log, accepted, check_call}

-- the length and the steps of the log written, or refused with its number
pub data Shortening : Type 0 where
  shortened : ℕ → ℕ → Shortening
  unshortened : ℕ → Shortening

-- how many bytes were written
unfoldable pub log_length : Shortening → ℕ
log_length (shortened size steps) = size
log_length (unshortened n) = 0

-- "a form and at least 2,309 bytes"
abbrev pub shortening_bytes : ℕ
shortening_bytes = 2309

-- the tests of the call in their order: 1, 2, then contents
unfoldable pub shorten_tested : (table form out : List ℕ) → Result Form
shorten_tested table form out = do
  test_table table
  require (leb shortening_bytes (length out)) 2
  take_form table form

-- no admissible step of any rule, letters and term M leads from the form to fewer terms
unfoldable pub Shortest : (table : List ℕ) (f : Form) → Type 0
Shortest table f = (s : Step) (reached : Form) → step_at table f s ≡ given reached → length f.terms ≤ length reached.terms

-- of a log: it begins with the form, the checker accepts its bytes, its steps are at most the terms saved, and no admissible step at its last form leads to fewer
-- terms
pub record Shortens (table : List ℕ) (first : Form) (log : Log) : Type 0 where
  pub bytes : List ℕ
  pub reads : read_log bytes ≡ given log
  pub begins : log.first ≡ first
  pub is_accepted : check_call table bytes ≡ accepted log.first_end log.last_start (length log.steps)
  pub saves : length log.steps + length log.last.terms ≤ length first.terms
  pub shortest : Shortest table log.last

-- of a log of so many bytes and steps: it begins with the form taken, the checker accepts exactly it, its steps are those reported and at most the terms saved, no
-- admissible step at its last form leads to fewer terms, and the bytes after it stand
pub record ShortenedTo (table form : List ℕ) (first : Form) (out : List ℕ) (size steps : ℕ) (out' : List ℕ) : Type 0 where
  pub last_start : ℕ
  pub last : Form
  pub fits : size ≤ length out
  pub begins : take (length form) out' ≡ form
  pub is_accepted : check_call table (take size out') ≡ accepted (length form) last_start steps
  pub ends : read_form (drop last_start (take size out')) ≡ given last
  pub saves : steps + length last.terms ≤ length first.terms
  pub shortest : Shortest table last
  pub same_length : length out' ≡ length out
  pub rest_stands : drop size out' ≡ drop size out

-- what holds by the tests and by the answer
unfoldable pub ShortenedBy : (tested : Result Form) (table form out : List ℕ) (answer : Shortening) (out' : List ℕ) → Type 0
ShortenedBy (refused n) table form out (shortened size steps) out' = ⊥
ShortenedBy (refused n) table form out (unshortened m) out' = (m ≡ n) × (out' ≡ out)
ShortenedBy (given first) table form out (shortened size steps) out' = ShortenedTo table form first out size steps out'
ShortenedBy (given first) table form out (unshortened m) out' = ⊥

-- the call: table, form, memory lent; the answer, and the memory afterwards
unfoldable pub Shortened : (table form out : List ℕ) (answer : Shortening) (out' : List ℕ) → Type 0
Shortened table form out answer out' = ShortenedBy (shorten_tested table form out) table form out answer out'
