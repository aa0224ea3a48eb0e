-- `logs::writing::write_steps` meets its contract: after i turns the records of the first i steps stand, in at most 23 · i bytes. Assumes nothing.
use mathlib.Core.Path.{◌≡◌, refl, ◌∙◌}
use Prim.Native.Nat.{◌+◌, ◌-◌, ◌*◌, ◌≤◌, ◌<◌}
use native.Mathlib.Omega.{arith}
use lib.ListN.{length}
use Rattle.record_writing.specs.Written.{Written}
use Rattle.record_writing.proofs.Writes.{written_none}
use Rattle.rules.specs.Steps.{StepValid}
use Rattle.terms.proofs.Arrays.{all-at}
use Rattle.logs.specs.Steps.{steps_of}
use Rattle.logs.proofs.WrittenLogs.{step_records, steps_none, step-behind, step-within}
use Rattle.logs.proofs.writing.write_steps.Given as goal

abbrev pub invariant-loop-i : goal.invariant-loop-i
invariant-loop-i l = (l.i ≤ l.n) × (length l.out ≡ length l.initial.out) × (l.next ≤ l.at + 23 * l.i) × Written l.initial.out l.out l.at l.next (step_records l.q.steps l.i)
