-- A log by its parts, tested before its replay. Assumes nothing.
use Rattle.std.specs.Prelude.{◌≡◌, Ok, Err, IfOk, List, ℕ, T, length, take}
use Rattle.std.specs.Prelude as Std
use Rattle.specification.specs.Letters.{good_table}
use Rattle.specification.specs.Logs.{Log, Checked, refused_at, accepted}
use Rattle.specification.specs.Printing.{alphabet}
use Rattle.specification.specs.LogTexts.{log_text}
use Rattle.specification.specs.Commands.{checked_text, tested_log, unpack_log}
use Rattle.refusal.specs.Numbers.{number_of}
use Rattle.terms.specs.declared.types.Form.{Form}
use Rattle.terms.specs.Abstraction.{form_of}
use Rattle.terms.specs.Valid.{FormValid}
use Rattle.logs.specs.declared.steps.Steps.{Steps}
use Rattle.logs.specs.declared.steps.RefusedAt.{RefusedAt}
use Rattle.logs.specs.declared.reading.LogReading.{LogReading}
use Rattle.logs.specs.Steps.{steps_of, found_of, StepsValid}

-- its forms and its steps; the tests before the replay do not look at its positions
abbrev pub log_with : Form → Steps → Form → Log
log_with f q g = record { first = form_of f; first_end = 0; steps = steps_of q; last_start = 0; last = form_of g }

-- the tests before the replay: all passed, or the first refusal and its step
abbrev pub tests_of : Std.Result (Unit {0}) RefusedAt → Checked
tests_of r = found_of r (λ _. accepted 0 0 0)

-- what is told of a log, or of its refusal
unfoldable pub unpacked_of : (table : List ℕ) → Std.Result LogReading RefusedAt → List ℕ
unpacked_of table (Ok q) = log_text (take (length table) alphabet) table (form_of q.first) (steps_of q.steps) (form_of q.last)
unpacked_of table (Err e) = checked_text 0 0 (refused_at (number_of e.why) e.step)

-- a log in shape whose table is good and whose letters pass their tests, or the refusal and its step
pub record LogTested (table s : List ℕ) (r : Std.Result LogReading RefusedAt) : Type 0 where
  pub is : unpack_log table s ≡ unpacked_of table r
  pub good : IfOk r (λ q. T (good_table table))
  pub tested : IfOk r (λ q. tested_log table (log_with q.first q.steps q.last) ≡ accepted 0 0 0)
  pub first : IfOk r (λ q. FormValid q.first)
  pub steps : IfOk r (λ q. StepsValid q.steps)
  pub last : IfOk r (λ q. FormValid q.last)
