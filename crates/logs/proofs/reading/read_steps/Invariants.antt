-- `logs::reading::read_steps` meets its contract. The loop's invariant: reading the steps that are left behind those that stand gives what reading all gives,
-- and those that stand are in shape. Assumes nothing.
use mathlib.Core.List.{List, [], map}
use mathlib.Core.Path.{◌≡◌, refl, ap, sym, ◌∙◌}
use Prim.Native.Nat.{ℕ, suc, ◌+◌, ◌-◌, ◌≤◌, ◌<◌}
use native.Mathlib.Omega.{arith}
use lib.ListN.{length, length-set, take}
use borrow.Author.Tests.{not-true, not-false}
use Rattle.specification.specs.Logs.{read_steps}
use Rattle.specification.specs.Rules as R
use Rattle.theory.specs.Elements.{All}
use Rattle.rules.specs.Steps.{step_of, StepValid}
use Rattle.logs.specs.Steps.{steps_of}
use Rattle.logs.proofs.StepRecords.{turn_refused, turned, steps_given, steps_refused, steps_stand_lem, pushed-steps, pushed-valid}
use Rattle.logs.proofs.reading.read_steps.Given as goal

abbrev pub invariant-loop-i : goal.invariant-loop-i
invariant-loop-i l = (l.i ≤ l.n) × (l.steps.count ≡ l.i) × (length l.steps.steps ≡ 64) × (read_steps l.n [] l.s l.at ≡ read_steps (l.n - l.i) (steps_of l.steps) l.s l.next) × All StepValid (take l.i l.steps.steps)
