-- `logs::steps::test_steps` meets its contract: the steps from the one reached on decide what all decide. Assumes nothing.
use mathlib.Core.Path.{◌≡◌, refl, ◌∙◌}
use Prim.Native.Nat.{◌+◌, ◌-◌, ◌≤◌}
use native.Mathlib.Omega.{arith}
use lib.ListN.{length}
use Rattle.logs.proofs.StepRecords.{no_step}
use Rattle.logs.proofs.StepLetters.{steps_from, step-stops, step_passes, steps-pass}
use Rattle.logs.specs.Steps.{found_of, steps_of}
use Rattle.rules.specs.Steps.{StepValid}
use Rattle.terms.proofs.Arrays.{all-at}
use Rattle.specification.specs.Logs.{Checked, steps_letters}
use Rattle.logs.proofs.steps.test_steps.Given as goal

abbrev pub invariant-loop-i : goal.invariant-loop-i
invariant-loop-i l = (l.i ≤ l.n) × (l.n ≡ l.q.count) × ((rest : Checked) → steps_letters l.table 1 (steps_of l.q) rest ≡ steps_letters l.table (l.i + 1) (steps_from l.q.steps l.n l.i) rest)
