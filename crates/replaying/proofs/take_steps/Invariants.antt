-- `replaying::take_steps` meets its contract: the rows stand for the current form, in shape, and replaying the steps that are left from it gives what
-- replaying all gives. Assumes nothing.
use mathlib.Core.Path.{◌≡◌, refl, ap, sym, subst, ◌∙◌}
use mathlib.Core.List.{[]}
use Prim.Native.Nat.{ℕ, ◌+◌, ◌*◌, ◌-◌, ◌≤◌, ◌<◌}
use native.Mathlib.Omega.{arith}
use lib.IntN.{nat_abs}
use lib.ListN.{length, get_or}
use Rattle.specification.specs.Results.{given}
use Rattle.specification.specs.Logs.{Log}
use Rattle.specification.specs.Logs as L
use Rattle.integers.proofs.Machine.{back, fits_back}
use Rattle.theory.specs.Shape.Terms.{in_limit}
use Rattle.terms.proofs.Arrays.{all-at}
use Rattle.terms.specs.Abstraction.{term_of}
use Rattle.rows.specs.Rows.{Light, form_by, FormRun}
use Rattle.rules.specs.Steps.{StepValid}
use Rattle.logs.specs.Steps.{steps_of, found_of}
use Rattle.logs.proofs.StepRecords.{no_step}
use Rattle.logs.proofs.StepLetters.{steps_from}
use Rattle.replaying.proofs.Replays.{step-fails, step-reaches, all_taken}
use Rattle.replaying.proofs.take_steps.Given as goal

abbrev pub invariant-loop-i : goal.invariant-loop-i
invariant-loop-i l = (l.i ≤ l.n) × (l.n ≡ l.q.count) × FormRun l.kind l.count l.rows l.coefs
    × ((log : Log) → L.replay log 1 (form_by l.kind l.held l.initial.rows l.initial.coefs) (steps_of l.q) ≡ L.replay log (l.i + 1) (form_by l.kind l.count l.rows l.coefs)
    (steps_from l.q.steps l.n l.i))
    × (length l.rows ≡ length l.initial.rows) × (length l.coefs ≡ length l.initial.coefs) × Light l.bound l.count l.coefs × (l.bound ≤ 2147483647 + l.i * 15032385529)
