-- Logs: their shape, their letters, the replay, and the checker's call. Assumes nothing.
use Rattle.std.specs.Prelude.{Bool, true, false, ◌&&◌, List, [], ◌∷◌, ◌++◌, map, ℕ, zero, suc, ◌+◌, ℤ, pos, negsuc, length, get_or, ltb, leb, eqb}
use Rattle.std.proofs.Math.Dec.{compare_is_eq}
use Rattle.specification.specs.Lists.{joined}
use Rattle.specification.specs.Results.{Result, refused, given, ◌>>=◌, ◌>>◌, require, when◌then◌else◌}
use Rattle.specification.specs.Letters.{test_table}
use Rattle.specification.specs.Terms.{Term, Form, compare_terms}
use Rattle.specification.specs.Records.{write_term, write_form, read_letters, read_term_at, read_form_at, test_terms}
use Rattle.specification.specs.Rules.{Step, is_rule, rule_letters, test_step_letters, take_step}

-- ════ writing

-- "the rule number, its letters in the order a b c d, a b c d, a b c d h, a b c d h or a b c d g h, and a term record M"
unfoldable pub write_step : Step → List ℕ
write_step s = s.rule ∷ s.letters ++ write_term s.m

-- the records of steps, one behind the other
unfoldable pub write_steps : List Step → List ℕ
write_steps ss = joined (map write_step ss)

-- "the first form, a count byte 0 to 64, the steps, the last form"
unfoldable pub write_log : (first : Form) (steps : List Step) (last : Form) → List ℕ
write_log first steps last = write_form first ++ length steps ∷ write_steps steps ++ write_form last

-- ════ the shape

-- a log has "at most 3,013 bytes": two forms, a count byte and 64 steps of 23 bytes
abbrev pub log_bytes : ℕ
log_bytes = 3013

-- the step record at a position: the rule number, its letters, and a term record M
unfoldable pub read_step_at : (s : List ℕ) (at : ℕ) → Result (Step × ℕ)
read_step_at s at = do
  require (ltb at (length s)) 11
  require (is_rule (get_or s at 0)) 11
  (letters, m_at) ← read_letters (rule_letters (get_or s at 0)) s (at + 1)
  (m, next) ← read_term_at s m_at
  given (record { rule = get_or s at 0; letters = letters; m = m }, next)

-- count steps behind those before
unfoldable pub read_steps : (count : ℕ) (before : List Step) (s : List ℕ) (at : ℕ) → Result (List Step × ℕ)
read_steps zero before s at = given (before, at)
read_steps (suc count) before s at = do
  (step, next) ← read_step_at s at
  read_steps count (before ++ step ∷ []) s next

-- the first form and where it ends, the steps, the last form and where it begins
pub record Log : Type 0 where
  pub first : Form
  pub first_end : ℕ
  pub steps : List Step
  pub last_start : ℕ
  pub last : Form

-- "the first form, a count byte 0 to 64, the steps, the last form"; that none is longer than `log_bytes` is a theorem (`log_short`)
unfoldable pub read_log : (s : List ℕ) → Result Log
read_log s = do
  (first, first_end) ← read_form_at s 0
  require (ltb first_end (length s)) 11
  require (leb (get_or s first_end 0) 64) 11
  (steps, last_start) ← read_steps (get_or s first_end 0) [] s (first_end + 1)
  (last, next) ← read_form_at s last_start
  require (eqb next (length s)) 11
  given (record { first = first; first_end = first_end; steps = steps; last_start = last_start; last = last })

-- ════ one form

-- equal coefficients
unfoldable pub same_coef : ℤ → ℤ → Bool
same_coef (pos m) (pos n) = eqb m n
same_coef (pos m) (negsuc n) = false
same_coef (negsuc m) (pos n) = false
same_coef (negsuc m) (negsuc n) = eqb m n

-- equal terms, one after the other
unfoldable pub same_terms : List Term → List Term → Bool
same_terms [] [] = true
same_terms [] (u ∷ us) = false
same_terms (t ∷ ts) [] = false
same_terms (t ∷ ts) (u ∷ us) = same_coef t.coef u.coef && compare_is_eq (compare_terms t u) && same_terms ts us

-- the same form: "The empty form keeps its kind"
unfoldable pub same_form : Form → Form → Bool
same_form f g = eqb f.kind g.kind && same_terms f.terms g.terms

-- ════ the replay

-- a refusal is a number and a step; or accepted: where the first form ends, where the last begins, how many steps
pub data Checked : Type 0 where
  refused_at : ℕ → ℕ → Checked
  accepted : ℕ → ℕ → ℕ → Checked

-- a test of a step: its refusal reports the step, else the rest goes on
abbrev pub at_step : {A : Type 0} → ℕ → Result A → (A → Checked) → Checked
at_step k (refused n) rest = refused_at n k
at_step k (given a) rest = rest a

-- the letters of the steps from step k on
unfoldable pub steps_letters : (table : List ℕ) (k : ℕ) (steps : List Step) (rest : Checked) → Checked
steps_letters table k [] rest = rest
steps_letters table k (s ∷ ss) rest = at_step k (test_step_letters table s) λ _. steps_letters table (k + 1) ss rest

-- the steps from step k on, taken in their order from the current form; "After all steps the last form must be the current one, otherwise 13 with the last form's step"
unfoldable pub replay : (log : Log) (k : ℕ) (current : Form) (steps : List Step) → Checked
replay log k current [] =
    when same_form log.last current then accepted log.first_end log.last_start (length log.steps) else refused_at 13 k
replay log k current (s ∷ ss) = at_step k (take_step current s) λ reached. replay log (k + 1) reached ss

-- the form that steps reach, one after the other, or the refusal of one
unfoldable pub take_steps : (current : Form) (steps : List Step) → Result Form
take_steps current [] = given current
take_steps current (s ∷ ss) = do
  reached ← take_step current s
  take_steps reached ss

-- ════ the call

-- a bad table, the shape, the letters in byte order, then step by step; no memory is written
unfoldable pub check_call : (table s : List ℕ) → Checked
check_call table s =
    at_step 0 (test_table table) λ _.
    at_step 0 (read_log s) λ log.
    at_step 0 (test_terms table log.first.terms) λ _.
    steps_letters table 1 log.steps
    (at_step (length log.steps + 1) (test_terms table log.last.terms) λ _.
    replay log 1 log.first log.steps)

-- "A log is within the limits when its replay gives no number, or 13"
unfoldable pub within_limits : Checked → Bool
within_limits (refused_at n k) = eqb n 13
within_limits (accepted a b n) = true
