-- What a step added to an open log gives. Assumes nothing.
use Rattle.std.specs.Prelude.{◌≡◌, List, ℕ}
use Rattle.specification.specs.Results.{Result, Test, refused, given}
use Rattle.specification.specs.OpenLogs.{add_to}
use Rattle.specification.specs.OpenLogs as O
use Rattle.refusal.specs.Tests.{test_of}
use Rattle.open_log.specs.declared.adding.Added.{Added}
use Rattle.open_log.specs.States.{state_of, StateValid}

-- a test, and what stands after it: what it gives, or what stood before
unfoldable pub standing : {A : Type 0} → A → Result A → Test × A
standing before (refused n) = (refused n, before)
standing before (given a) = (given tt, a)

-- what adding a step gives: the answer and the state that stands afterwards, a valid one
pub record AddedAs (before : O.State) (step : List ℕ) (r : Added) : Type 0 where
  pub is : (test_of r.answer, state_of r.state) ≡ standing before (add_to before step)
  pub valid : StateValid r.state
