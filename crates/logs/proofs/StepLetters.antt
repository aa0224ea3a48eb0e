-- The letters of steps: the steps from the one reached on decide what all decide. Assumes nothing.
use mathlib.Core.Path.{◌≡◌, ap, sym, ◌∙◌}
use mathlib.Core.List.{List, [], ◌∷◌, map}
use Prim.Native.Nat.{ℕ, ◌+◌, ◌<◌, ◌≤◌}
use lib.ListN.{length, get_or, take, drop}
use Rattle.specification.specs.Results.{Test}
use Rattle.specification.specs.Rules.{test_step_letters}
use Rattle.specification.specs.Rules as R
use Rattle.specification.specs.Logs.{refused_at, steps_letters}
use Rattle.specification.specs.Logs as L
use Rattle.terms.proofs.Arrays.{rest_at, nothing_left_lem}
use Rattle.std.specs.Prelude.{Ok, Err}
use Rattle.refusal.specs.declared.Refusal.{Refusal}
use Rattle.refusal.specs.Numbers.{number_of}
use Rattle.refusal.specs.Tests.{test_of}
use Rattle.std.specs.Prelude as Std
use Rattle.logs.specs.declared.steps.RefusedAt.{RefusedAt}
use Rattle.logs.specs.Steps.{at_step}
use Rattle.logs.proofs.AtSteps.{ends_at, goes_on_at}
use Rattle.rules.specs.declared.steps.Step.{Step}
use Rattle.rules.specs.Steps.{step_of}
use Rattle.logs.proofs.StepRecords.{no_step}

-- the first n steps from a place on
abbrev pub steps_from : (q : List Step) (n i : ℕ) → List R.Step
steps_from q n i = map step_of (drop i (take n q))

module _ (q : List Step) (n i : ℕ) (h : n ≤ length q) where
  -- the one there
  abbrev pub here : R.Step
  here = step_of (get_or q i no_step)

  pub one_left : i < n → steps_from q n i ≡ here ∷ steps_from q n (i + 1)
  one_left g = ap (map step_of) (rest_at q n i no_step h g)

  pub none_left : n ≤ i → steps_from q n i ≡ []
  none_left g = ap (map step_of) (nothing_left_lem q n i h g)

  -- ════ letters

  module _ (table : List ℕ) (k : ℕ) (g : i < n) (rest : L.Checked) (r : Std.Result (Unit {0}) Refusal) (e : test_of r ≡ test_step_letters table here) where
    by_step : steps_letters table k (steps_from q n i) rest ≡ L.at_step k (test_of r) (λ _. steps_letters table (k + 1) (steps_from q n (i + 1)) rest)
    unfolding steps_letters
    by_step =
        ap (λ (l : List R.Step). steps_letters table k l rest) (one_left g)
        ∙ ap (λ (t : Test). L.at_step k t (λ _. steps_letters table (k + 1) (steps_from q n (i + 1)) rest)) (sym e)

    -- the letters of the step at a place are refused
    pub step-stops : (w : RefusedAt) → Err w ≡ at_step r k → steps_letters table k (steps_from q n i) rest ≡ refused_at (number_of w.why) w.step
    step-stops w h = by_step ∙ ends_at (λ _. tt) k _ r w h

    -- or they pass
    pub step_passes : (u : Unit {0}) → Ok u ≡ at_step r k → steps_letters table k (steps_from q n i) rest ≡ steps_letters table (k + 1) (steps_from q n (i + 1)) rest
    step_passes u h = by_step ∙ goes_on_at (λ _. tt) k _ r u h

  -- all passed
  pub steps-pass : n ≤ i → (table : List ℕ) (k : ℕ) (rest : L.Checked) → steps_letters table k (steps_from q n i) rest ≡ rest
  unfolding steps_letters
  steps-pass g table k rest = ap (λ (l : List R.Step). steps_letters table k l rest) (none_left g)
