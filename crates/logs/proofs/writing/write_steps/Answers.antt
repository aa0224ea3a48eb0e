-- `logs::writing::write_steps` meets its contract: after i turns the records of the first i steps stand, in at most 23 · i bytes. Assumes nothing.
use Rattle.std.proofs.Common.{rules}
use mathlib.Core.Path.{◌≡◌, refl, ◌∙◌}
use Prim.Native.Nat.{◌+◌, ◌-◌, ◌*◌, ◌≤◌, ◌<◌}
use native.Mathlib.Omega.{arith}
use lib.ListN.{length}
use Rattle.record_writing.specs.Written.{Written}
use Rattle.record_writing.proofs.Writes.{written_none}
use Rattle.rules.specs.Steps.{StepValid}
use Rattle.terms.proofs.Arrays.{all-at}
use Rattle.logs.specs.Steps.{steps_of}
use Rattle.logs.proofs.WrittenLogs.{step_records, steps_none, step-behind, step-within}
use Rattle.logs.proofs.writing.write_steps.Goals.{Start}
use Rattle.logs.proofs.writing.write_steps.Goals as goal

-- the steps are among the places
few : (c : Start) → c.args.q.count ≤ length c.args.q.steps
few c = omega (arith, c.requires.0.long, c.requires.0.few)

pub loop-i-init : goal.loop-i-init
loop-i-init c = (omega arith, refl, omega arith, written_none _ _ _ (steps_none c.args.q.steps))

pub offset_bounds-q-i : goal.offset_bounds-q-i
offset_bounds-q-i c = omega (arith, c.requires.0.few)

pub bounds-q-i : goal.bounds-q-i
bounds-q-i c = omega (arith, c.requires.0.few)

pub write_step-next-requires : goal.write_step-next-requires
write_step-next-requires c =
    let v = c.loop-i in
    let s = c in
    let t = c.loop-i-test.true in (
      all-at StepValid s.args.q.steps s.args.q.count v.i _ (few (goal.at.write_step-next-requires c).Start) t s.requires.0.steps,
      omega (arith, t, v.invariant.1, v.invariant.2, s.requires.1),
    )

pub loop-i-preserved : goal.loop-i-preserved
loop-i-preserved c =
    let v = c.loop-i in
    let s = c in
    let t = c.loop-i-test.true in
    let w = c.write_step-next in
    let h : v.i < length s.args.q.steps = omega (arith, few (goal.at.loop-i-preserved c).Start, t) in (
      omega (arith, t),
      w.auto.out ∙ v.invariant.1,
      step-within s.args.q.steps s.args.q.count v.i _ _ _ _ _ _ (few (goal.at.loop-i-preserved c).Start) t s.requires.0.steps w.ensures v.invariant.2,
      step-behind s.args.q.steps v.i _ _ _ _ _ _ _ h (omega (arith, s.requires.1)) v.invariant.3 w.ensures,
    )

pub shape_of-out : goal.shape_of-out
shape_of-out c = c.loop-i.invariant.1

pub returns : goal.returns
unfolding steps_of
returns c =
    let v = c.loop-i in
    let e : v.i ≡ c.args.q.count = omega (arith, c.loop-i-test.false, v.invariant.0) in rw (← e) v.invariant.3
