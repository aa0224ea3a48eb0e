-- What was read of a step, of steps and of a log. Assumes nothing.
use Rattle.std.specs.Prelude.{◌≡◌, List, ℕ, IfOk}
use Rattle.std.specs.Prelude as Std
use Rattle.specification.specs.Results.{Result}
use Rattle.specification.specs.Rules as R
use Rattle.specification.specs.Logs.{Log}
use Rattle.terms.specs.Abstraction.{form_of}
use Rattle.terms.specs.Valid.{FormValid}
use Rattle.rules.specs.Steps.{step_of, StepValid}
use Rattle.refusal.specs.declared.Refusal.{Refusal}
use Rattle.refusal.specs.Tests.{answer_of}
use Rattle.rules.specs.declared.steps.Step.{Step}
use Rattle.logs.specs.declared.steps.Steps.{Steps}
use Rattle.logs.specs.declared.reading.LogReading.{LogReading}
use Rattle.logs.specs.Steps.{steps_of, StepsValid}

-- what was read of a step, and the position behind it
unfoldable pub step_read_of : Std.Result (Step × ℕ) Refusal → Result (R.Step × ℕ)
step_read_of q = answer_of (λ r. (step_of r.0, r.1)) q

-- a step read
pub record StepRead (read : Result (R.Step × ℕ)) (q : Std.Result (Step × ℕ) Refusal) : Type 0 where
  pub is : step_read_of q ≡ read
  pub valid : IfOk q (λ r. StepValid r.0)

-- what was read of the steps, and the position behind them
unfoldable pub steps_read_of : Std.Result (Steps × ℕ) Refusal → Result (List R.Step × ℕ)
steps_read_of q = answer_of (λ r. (steps_of r.0, r.1)) q

-- so many steps read
pub record StepsRead (read : Result (List R.Step × ℕ)) (n : ℕ) (q : Std.Result (Steps × ℕ) Refusal) : Type 0 where
  pub is : steps_read_of q ≡ read
  pub count : IfOk q (λ r. r.0.count ≡ n)
  pub valid : IfOk q (λ r. StepsValid r.0)

-- the parts of a log
unfoldable pub parts_of : LogReading → Log
parts_of q = record { first = form_of q.first; first_end = q.first_end; steps = steps_of q.steps; last_start = q.last_start; last = form_of q.last }

-- what was read of a log
unfoldable pub log_read_of : Std.Result LogReading Refusal → Result Log
log_read_of q = answer_of parts_of q

-- a log read
pub record LogRead (read : Result Log) (q : Std.Result LogReading Refusal) : Type 0 where
  pub is : log_read_of q ≡ read
  pub first : IfOk q (λ r. FormValid r.first)
  pub steps : IfOk q (λ r. StepsValid r.steps)
  pub last : IfOk q (λ r. FormValid r.last)
