-- Steps from a form to one that no step shortens. Assumes nothing.
use Rattle.std.specs.Prelude.{◌≡◌, List, map, ℕ, ◌+◌, ◌≤◌, T, ℤ, length, take}
use Rattle.specification.specs.Results.{given}
use Rattle.specification.specs.Letters.{good_table}
use Rattle.specification.specs.Terms as S
use Rattle.specification.specs.Records.{test_terms}
use Rattle.specification.specs.Logs.{take_steps}
use Rattle.specification.specs.Shortening.{Shortest}
use Rattle.theory.specs.Elements.{All}
use Rattle.theory.specs.Shape.Letters.{AllKnown}
use Rattle.theory.proofs.Records.Logs.{StepsInShape}
use Rattle.theory.proofs.Replay.Accepted.{Derives, test_steps}
use Rattle.theory.specs.Shortening.Candidates.{NoCandidate}
use Rattle.terms.specs.declared.types.Form.{Form}
use Rattle.terms.specs.Abstraction.{form_of}
use Rattle.terms.specs.Valid.{FormValid}
use Rattle.rows.specs.Rows.{run_of, form_by, FormRun}
use Rattle.rules.specs.declared.steps.Step.{Step}
use Rattle.rules.specs.Steps.{step_of, StepValid}
use Rattle.logs.specs.Steps.{steps_of, StepsValid}
use Rattle.shortening.specs.declared.rounds.Rounds.{Rounds}
use Rattle.shortening.specs.declared.rounds.Derivation.{Derivation}

-- the first n steps lead from a form to another: each is in shape, its letters are in the table, and each saves a term
pub record Leads (table : List ℕ) (f : S.Form) (steps : List Step) (n : ℕ) (g : S.Form) : Type 0 where
  pub places : length steps ≡ 64
  pub valid : All StepValid (take n steps)
  pub saves : n + length g.terms ≤ length f.terms
  pub reaches : take_steps f (map step_of (take n steps)) ≡ given g
  pub tests : test_steps table (map step_of (take n steps)) ≡ given tt
  pub in_shape : StepsInShape (map step_of (take n steps))

-- from the form of a kind in n rows such steps lead to one that has no candidate, if its letters are in the table
pub record RoundsTaken (table : List ℕ) (kind n : ℕ) (rows : List (List ℕ)) (coefs : List ℤ) (r : Rounds) (rows' : List (List ℕ))
    (coefs' : List ℤ) : Type 0 where
  pub leads : Leads table (form_by kind n rows coefs) r.steps.steps r.steps.count (form_by kind r.count rows' coefs')
  pub form : FormRun kind r.count rows' coefs'
  pub none : AllKnown table (run_of r.count rows' coefs') → NoCandidate table (form_by kind r.count rows' coefs')

-- a derivation in shape
pub record DerivationValid (d : Derivation) : Type 0 where
  pub few : d.steps.count ≤ 48
  pub steps : StepsValid d.steps
  pub last : FormValid d.last

-- each step saves a term, they lead from the form to the last one where its letters are in the table, and no step shortens that
pub record Derived (table : List ℕ) (f : Form) (r : Derivation) : Type 0 where
  pub valid : DerivationValid r
  pub saves : r.steps.count + r.last.count ≤ f.count
  pub derives : T (good_table table) → test_terms table (form_of f).terms ≡ given tt → Derives table (form_of f) (steps_of r.steps) (form_of r.last)
  pub shortest : test_terms table (form_of f).terms ≡ given tt → Shortest table (form_of r.last)
