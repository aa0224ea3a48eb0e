-- `logs::steps::test_steps` meets its contract: the steps from the one reached on decide what all decide. Assumes nothing.
use Rattle.std.proofs.Common.{rules}
use mathlib.Core.Path.{◌≡◌, refl, ◌∙◌}
use Prim.Native.Nat.{◌+◌, ◌-◌, ◌≤◌}
use native.Mathlib.Omega.{arith}
use lib.ListN.{length}
use Rattle.logs.proofs.StepRecords.{no_step}
use Rattle.logs.proofs.StepLetters.{steps_from, step-stops, step_passes, steps-pass}
use Rattle.logs.specs.Steps.{found_of, steps_of}
use Rattle.rules.specs.Steps.{StepValid}
use Rattle.terms.proofs.Arrays.{all-at}
use Rattle.specification.specs.Logs.{Checked, steps_letters}
use Rattle.refusal.proofs.Passing.{passed_up}
use Rattle.logs.proofs.steps.test_steps.Goals.{Start}
use Rattle.logs.proofs.steps.test_steps.Goals as goal

room : (c : Start) → c.args.q.count ≤ length c.args.q.steps
room c = omega (arith, c.requires.long, c.requires.few)

pub loop-i-init : goal.loop-i-init
unfolding steps_of
loop-i-init c = (omega arith, refl, λ rest. refl)

pub offset_bounds-q-i : goal.offset_bounds-q-i
offset_bounds-q-i c = omega (arith, c.requires.few)

pub bounds-q-i : goal.bounds-q-i
bounds-q-i c = omega (arith, c.requires.few)

pub test_step_letters-requires : goal.test_step_letters-requires
test_step_letters-requires c =
    let w = c in
    (all-at StepValid w.args.q.steps w.args.q.count c.loop-i.i no_step (room (goal.at.test_step_letters-requires c).Start)
    c.loop-i-test.true c.requires.steps).m.counted

pub overflow_cast-i : goal.overflow_cast-i
overflow_cast-i c = omega (arith, c.requires.few, c.loop-i-test.true)

pub returns-in_err-at_step : goal.returns-in_err-at_step
unfolding found_of
returns-in_err-at_step c =
    let w = c in
    rw (passed_up _ _ c.from_residual.ensures.1) (record {
      is = λ rest. c.loop-i.invariant.2 rest ∙ step-stops w.args.q.steps w.args.q.count
          c.loop-i.i (room (goal.at.returns-in_err-at_step c).Start) w.args.table.now
          (c.loop-i.i + 1) c.loop-i-test.true rest _ c.test_step_letters.ensures _ c.in_err-at_step.ensures;
    })

pub loop-i-preserved : goal.loop-i-preserved
loop-i-preserved c =
    let w = c in (
      omega arith,
      c.loop-i.invariant.1,
      λ rest. c.loop-i.invariant.2 rest ∙ step_passes w.args.q.steps w.args.q.count c.loop-i.i
          (room (goal.at.loop-i-preserved c).Start) w.args.table.now (c.loop-i.i + 1) c.loop-i-test.true rest _ c.test_step_letters.ensures _ c.in_ok-at_step.ensures,
    )

pub returns : goal.returns
unfolding found_of
returns c =
    let w = c in
    record {
      is = λ rest. c.loop-i.invariant.2 rest ∙ steps-pass w.args.q.steps w.args.q.count c.loop-i.i (room (goal.at.returns c).Start)
          c.loop-i-test.false w.args.table.now (c.loop-i.i + 1) rest;
    }
