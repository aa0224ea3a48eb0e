-- Steps as data, and the refusals of their letters. Assumes nothing.
use Rattle.std.specs.Prelude.{◌≡◌, List, map, ℕ, ◌≤◌, length, take, Ok, Err}
use Rattle.std.specs.Prelude as Std
use Rattle.specification.specs.Rules as R
use Rattle.specification.specs.Logs.{Checked, refused_at, steps_letters}
use Rattle.theory.specs.Elements.{All}
use Rattle.rules.specs.Steps.{step_of, StepValid}
use Rattle.logs.specs.declared.steps.Steps.{Steps}
use Rattle.refusal.specs.declared.Refusal.{Refusal}
use Rattle.refusal.specs.Numbers.{number_of}
use Rattle.logs.specs.declared.steps.RefusedAt.{RefusedAt}

-- the steps
unfoldable pub steps_of : Steps → List R.Step
steps_of q = map step_of (take q.count q.steps)

-- steps in shape
pub record StepsValid (q : Steps) : Type 0 where
  pub few : q.count ≤ 64
  pub long : length q.steps ≡ 64
  pub steps : All StepValid (take q.count q.steps)

-- what follows, or a refusal and its step
unfoldable pub found_of : {A : Type 0} → Std.Result A RefusedAt → (A → Checked) → Checked
found_of (Ok a) rest = rest a
found_of (Err e) rest = refused_at (number_of e.why) e.step

-- an answer about one step: a refusal gets the step
abbrev pub at_step : {A : Type 0} → Std.Result A Refusal → ℕ → Std.Result A RefusedAt
at_step (Ok a) k = Ok a
at_step (Err e) k = Err (record { why = e; step = k })

-- the first refusal among the steps' letters
pub record StepsTested (table : List ℕ) (q : Steps) (r : Std.Result (Unit {0}) RefusedAt) : Type 0 where
  pub is : (rest : Checked) → steps_letters table 1 (steps_of q) rest ≡ found_of r (λ _. rest)
