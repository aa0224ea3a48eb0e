-- The tests of a log before its replay, one after the other. Assumes nothing.
use mathlib.Core.Path.{◌≡◌, refl, sym, ◌∙◌, ap}
use mathlib.Core.List.{List}
use Prim.Native.Nat.{ℕ, ◌+◌}
use lib.ListN.{length}
use Rattle.std.specs.Prelude.{Ok, Err}
use Rattle.std.specs.Prelude as Std
use Rattle.specification.specs.Results.{Test}
use Rattle.specification.specs.Records.{test_terms}
use Rattle.specification.specs.Logs.{Checked, accepted, steps_letters}
use Rattle.specification.specs.Logs as L
use Rattle.specification.specs.Commands.{tested_log}
use Rattle.refusal.specs.declared.Refusal.{Refusal}
use Rattle.refusal.specs.Tests.{test_of}
use Rattle.terms.specs.declared.types.Form.{Form}
use Rattle.terms.specs.Abstraction.{form_of, terms_of}
use Rattle.logs.specs.declared.steps.Steps.{Steps}
use Rattle.logs.specs.declared.steps.RefusedAt.{RefusedAt}
use Rattle.logs.specs.Steps.{steps_of, found_of, at_step, StepsTested}
use Rattle.unpack_word.specs.Parts.{log_with, tests_of}

-- a test at a step, and what follows
at_step-found : (r : Std.Result (Unit {0}) Refusal) (k : ℕ) (rest : Unit {0} → Checked) → L.at_step k (test_of r) rest ≡ found_of (at_step r k) rest
unfolding found_of
at_step-found (Ok u) k rest = refl
at_step-found (Err e) k rest = refl

module _ (table : List ℕ) (f : Form) (q : Steps) (g : Form) where
  -- what follows the steps
  abbrev behind_steps : Checked
  behind_steps = L.at_step (length (steps_of q) + 1) (test_terms table (terms_of g)) λ _. accepted 0 0 0

  module _ (r : Std.Result (Unit {0}) Refusal) (tr : test_of r ≡ test_terms table (terms_of f)) (d : Std.Result (Unit {0}) RefusedAt) (h : d ≡ at_step r 0) where
    by_first : tested_log table (log_with f q g) ≡ found_of d (λ _. steps_letters table 1 (steps_of q) behind_steps)
    unfolding tested_log form_of terms_of
    by_first =
        ap (λ (t : Test). L.at_step 0 t (λ _. steps_letters table 1 (steps_of q) behind_steps)) (sym tr)
        ∙ at_step-found r 0 (λ _. steps_letters table 1 (steps_of q) behind_steps)
        ∙ ap (λ (x : Std.Result (Unit {0}) RefusedAt). found_of x (λ _. steps_letters table 1 (steps_of q) behind_steps)) (sym h)

module _ (table : List ℕ) (f : Form) (q : Steps) (g : Form) (r : Std.Result (Unit {0}) Refusal) (tr : test_of r ≡ test_terms table (terms_of f)) where
  -- the first form
  pub first_found : (e : RefusedAt) → Err e ≡ at_step r 0 → tested_log table (log_with f q g) ≡ tests_of (Err e)
  unfolding found_of
  first_found e h = by_first table f q g r tr (Err e) h

  module _ (u : Unit {0}) (h : Ok u ≡ at_step r 0) where
    by_steps : (d : Std.Result (Unit {0}) RefusedAt) → StepsTested table q d → tested_log table (log_with f q g) ≡ found_of d (λ _. behind_steps table f q g)
    unfolding found_of
    by_steps d td = by_first table f q g r tr (Ok u) h ∙ td.is (behind_steps table f q g)

    -- a step
    pub steps-found : (e : RefusedAt) → StepsTested table q (Err e) → tested_log table (log_with f q g) ≡ tests_of (Err e)
    unfolding found_of
    steps-found e td = by_steps (Err e) td

    -- the last form
    pub last_found : (v : Unit {0}) → StepsTested table q (Ok v) → (n : ℕ) → length (steps_of q) ≡ n → (l : Std.Result (Unit {0}) Refusal) → test_of l ≡ test_terms table (terms_of g)
        → (d : Std.Result (Unit {0}) RefusedAt) → d ≡ at_step l (n + 1) → tested_log table (log_with f q g) ≡ tests_of d
    unfolding found_of
    last_found v td n long l tl d e =
        by_steps (Ok v) td
        ∙ (λ i. L.at_step (long i + 1) (sym tl i) (λ _. accepted 0 0 0)) ∙ at_step-found l (n + 1) (λ _. accepted 0 0 0)
        ∙ ap tests_of (sym e)
