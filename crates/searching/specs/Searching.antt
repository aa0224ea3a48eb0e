-- The search for a step to fewer terms. Assumes nothing.
use Rattle.std.specs.Prelude.{Option, Some, None, ◌≡◌, List, ℕ, ◌≤◌, ◌<◌, ℤ, length}
use Rattle.specification.specs.Results.{given}
use Rattle.specification.specs.Terms.{Form}
use Rattle.specification.specs.Rules.{step_at}
use Rattle.theory.specs.Shape.Letters.{AllKnown}
use Rattle.theory.specs.Shortening.Candidates.{NoCandidate}
use Rattle.rows.specs.Rows.{form_by, FormRun}
use Rattle.rules.specs.Steps.{step_of, StepValid}
use Rattle.searching.specs.declared.searching.Found.{Found}

-- a step to fewer terms and the form that it reaches, in rows
pub record Shorter (table : List ℕ) (f : Form) (r : Found) (rows : List (List ℕ)) (coefs : List ℤ) : Type 0 where
  pub admissible : step_at table f (step_of r.step) ≡ given (form_by f.kind r.count rows coefs)
  pub fewer : r.count < length f.terms
  pub form : FormRun f.kind r.count rows coefs
  pub step : StepValid r.step
  pub behind : r.behind ≤ 48

-- such a step, or, where no term was left out and the letters are in the table, there is none
unfoldable pub SearchedBy : (first : ℕ) (table : List ℕ) (f : Form) (r : Option Found) (rows : List (List ℕ)) (coefs : List ℤ) → Type 0
SearchedBy first table f (Some r) rows coefs = Shorter table f r rows coefs
SearchedBy first table f None rows coefs = first ≡ 0 → AllKnown table f.terms → NoCandidate table f
