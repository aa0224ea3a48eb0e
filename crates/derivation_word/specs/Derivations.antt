-- A derivation as data, and what a line leaves of it. Assumes nothing.
use Rattle.std.specs.Prelude.{◌≡◌, IfOk, Bool, true, false, List, ◌∷◌, ◌++◌, [], ℕ, ◌+◌, ◌≤◌, length, take}
use Rattle.std.specs.Prelude as Std
use Rattle.specification.specs.Results.{when◌then◌else◌}
use Rattle.specification.specs.Rules as R
use Rattle.specification.specs.Text.{Placed}
use Rattle.specification.specs.Commands.{unopened, underway}
use Rattle.specification.specs.Commands as C
use Rattle.specification.specs.OpenLogs.{add_to}
use Rattle.specification.specs.Logs.{write_step}
use Rattle.theory.proofs.Text.Derivations.{Going}
use Rattle.terms.specs.declared.types.Form.{Form}
use Rattle.terms.specs.Abstraction.{form_of}
use Rattle.terms.specs.Valid.{FormValid}
use Rattle.rules.specs.declared.steps.Step.{Step}
use Rattle.rules.specs.Steps.{step_of, StepValid}
use Rattle.logs.specs.Steps.{steps_of, StepsValid}
use Rattle.texts.specs.declared.Unread.{Unread}
use Rattle.texts.specs.Readings.{placed_of}
use Rattle.open_log.specs.States.{state_of}
use Rattle.telling.specs.Told.{Tells}
use Rattle.derivation_word.specs.declared.reading.Derivation.{Derivation}
use Rattle.derivation_word.specs.declared.reading.Answered.{Answered}

-- the names
unfoldable pub names_of : Derivation → List ℕ
names_of d = take d.state.letters d.names

-- the table of their kinds
unfoldable pub kinds_of : Derivation → List ℕ
kinds_of d = take d.state.letters d.state.table

-- a derivation: open or not yet
unfoldable pub derivation_of : Derivation → C.Derivation
derivation_of d =
    when d.begun then underway (names_of d) (form_of d.first) (state_of d.state) (steps_of d.steps) else unopened (names_of d) (kinds_of d)

-- the forms and steps of an open one are in shape
pub record Whole (d : Derivation) : Type 0 where
  pub first : FormValid d.first
  pub form : FormValid d.state.form
  pub steps : StepsValid d.steps

-- what one function may ask of another's derivation
pub record DerivationValid (d : Derivation) : Type 0 where
  pub few : d.state.letters ≤ 24
  pub named : length d.names ≡ 24
  pub kinds : length d.state.table ≡ 24
  pub going : Going (derivation_of d)
  pub whole : d.begun ≡ true → Whole d

-- what the line k leaves, and what is told for it: read as the first form,
abbrev pub read_as_first : (k : ℕ) (line : List ℕ) → Derivation → C.Derivation × List ℕ
read_as_first k line d = C.line_read k line (derivation_of d) (C.read_first (names_of d) (kinds_of d) line) (C.first_answer (names_of d) (kinds_of d))

-- and read as a step
abbrev pub read_as_step : (k : ℕ) (line : List ℕ) → Derivation → C.Derivation × List ℕ
read_as_step k line d =
    C.line_read k line (derivation_of d) (C.read_one_step (names_of d) (kinds_of d) line)
    (λ step. C.step_answer (names_of d) (form_of d.first) (state_of d.state) (steps_of d.steps) step (add_to (state_of d.state) (write_step step)))

-- what a line leaves and what is told for it
pub record LineTold (x : C.Derivation × List ℕ) (before after : List ℕ) (at : ℕ) (r : Answered) : Type 0 where
  pub is : derivation_of r.derivation ≡ x.0
  pub tells : Tells before after at r.end x.1
  pub valid : DerivationValid r.derivation

-- the step of a line, or the refusal at its column
pub record StepTyped (x : Placed R.Step) (r : Std.Result Step Unread) : Type 0 where
  pub is : x ≡ placed_of step_of r
  pub valid : IfOk r StepValid

-- one step more, and the form that it leads to
pub record StepAdded (d : Derivation) (step : Step) (f : Form) (r : Derivation) : Type 0 where
  pub is : derivation_of r
      ≡ underway (names_of d) (form_of d.first) (record { table = kinds_of d; count = d.state.count + 1; form = form_of f }) (steps_of d.steps ++ step_of step ∷ [])
  pub few : r.state.letters ≤ 24
  pub named : length r.names ≡ 24
  pub kinds : length r.state.table ≡ 24
  pub first : r.first ≡ d.first
  pub form : r.state.form ≡ f
  pub steps : StepsValid r.steps
