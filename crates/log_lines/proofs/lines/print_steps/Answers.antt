-- `log_lines::lines::print_steps` meets its contract: before each turn the steps from i on are left, with 55 bytes of room for each. Assumes nothing.
use Prim.Native.Nat.{◌≤◌}
use native.Mathlib.Omega.{arith}
use lib.ListN.{length, get_or}
use Rattle.terms.proofs.Arrays.{all-at}
use Rattle.logs.proofs.StepRecords.{no_step}
use Rattle.logs.specs.Steps.{steps_of}
use Rattle.symbols.proofs.Progress.{begins, goes_on_lem, ended}
use Rattle.log_lines.specs.Printed.{StepPrintable}
use Rattle.log_lines.proofs.Texts.{step_text_short, step-next, steps-end}
use Rattle.log_lines.proofs.lines.print_steps.Goals.{Start}
use Rattle.log_lines.proofs.lines.print_steps.Goals as goal

-- the steps are among the places
few : (c : Start) → c.args.q.count ≤ length c.args.q.steps
few c = omega (arith, c.requires.0.valid.long, c.requires.0.valid.few)

pub loop-i-init : goal.loop-i-init
loop-i-init c = (omega (arith, c.requires.1), begins _ _ _)

pub offset_bounds-q-i : goal.offset_bounds-q-i
offset_bounds-q-i c = omega (arith, c.requires.0.valid.few)

pub bounds-q-i : goal.bounds-q-i
bounds-q-i c = omega (arith, c.requires.0.valid.few)

pub print_step-next-requires : goal.print_step-next-requires
print_step-next-requires c =
    let v = c.loop-i in
    let t = c.loop-i-test.true in (
      all-at (StepPrintable c.args.names.now) c.args.q.steps c.args.q.count v.i _
          (few (goal.at.print_step-next-requires c).Start) t c.requires.0.steps,
      omega (arith, t, v.invariant.0),
    )

pub loop-i-preserved : goal.loop-i-preserved
loop-i-preserved c =
    let v = c.loop-i in
    let t = c.loop-i-test.true in
    let w = c.print_step-next in
    let p = all-at (StepPrintable c.args.names.now) c.args.q.steps c.args.q.count v.i no_step
    (few (goal.at.loop-i-preserved c).Start) t c.requires.0.steps in
    let h = step_text_short c.args.names.now (get_or c.args.q.steps v.i no_step) p in (
      omega (arith, t, v.invariant.0, w.ensures.ends, h, w.auto.out),
      goes_on_lem _ _ _ _ _ _ _ _ _ _ (step-next _ _ _ _ (few (goal.at.loop-i-preserved c).Start) no_step t) (omega (arith, t, v.invariant.0, h))
          v.invariant.1 w.ensures,
    )

pub shape_of-out : goal.shape_of-out
shape_of-out c = c.loop-i.invariant.1.kept

pub returns : goal.returns
unfolding steps_of
returns c =
    ended _ _ _ _ _ _ (steps-end _ c.args.q.steps c.args.q.count _ (few (goal.at.returns c).Start) c.loop-i-test.false) c.loop-i.invariant.1
