-- `replaying::take_steps` meets its contract: the rows stand for the current form, in shape, and replaying the steps that are left from it gives what
-- replaying all gives. Assumes nothing.
use Rattle.std.proofs.Common.{rules}
use mathlib.Core.Path.{◌≡◌, refl, ap, sym, subst, ◌∙◌}
use mathlib.Core.List.{[]}
use Prim.Native.Nat.{ℕ, ◌+◌, ◌*◌, ◌-◌, ◌≤◌, ◌<◌}
use native.Mathlib.Omega.{arith}
use lib.IntN.{nat_abs}
use lib.ListN.{length, get_or}
use Rattle.specification.specs.Results.{given}
use Rattle.specification.specs.Logs.{Log}
use Rattle.specification.specs.Logs as L
use Rattle.integers.proofs.Machine.{back, fits_back}
use Rattle.theory.specs.Shape.Terms.{in_limit}
use Rattle.terms.proofs.Arrays.{all-at}
use Rattle.terms.specs.Abstraction.{term_of}
use Rattle.rows.specs.Rows.{Light, form_by, FormRun}
use Rattle.rules.specs.Steps.{StepValid}
use Rattle.logs.specs.Steps.{steps_of, found_of}
use Rattle.logs.proofs.StepRecords.{no_step}
use Rattle.logs.proofs.StepLetters.{steps_from}
use Rattle.replaying.proofs.Replays.{step-fails, step-reaches, all_taken}
use Rattle.std.specs.Prelude.{Ok}
use Rattle.std.proofs.lemmas.Result.{IfOk-at_ok}
use Rattle.refusal.proofs.Passing.{passed_up}
use Rattle.logs.proofs.StepLetters.{steps_from}
use Rattle.logs.proofs.AtSteps.{at_step_ok}
use Rattle.replaying.proofs.take_steps.Goals.{Start}
use Rattle.replaying.proofs.take_steps.Goals as goal

room : (c : Start) → c.args.q.count ≤ length c.args.q.steps
room c = omega (arith, c.requires.3.few, c.requires.3.long)

-- a step of the log
valid : (c : Start) (i : ℕ) → i < c.args.q.count → StepValid (get_or c.args.q.steps i no_step)
valid c i h = all-at StepValid c.args.q.steps c.args.q.count i no_step (room c) h c.requires.3.steps

-- its coefficient is within, and read back as it was stored
limit : (c : Start) (i : ℕ) → i < c.args.q.count → nat_abs (get_or c.args.q.steps i no_step).m.coef ≤ 2147483647
unfolding term_of
limit c i h = in_limit (term_of (get_or c.args.q.steps i no_step).m) (valid c i h).m.in_shape

own : (c : Start) (i : ℕ) → i < c.args.q.count
    → nat_abs (back (get_or c.args.q.steps i no_step).m.coef) ≡ nat_abs (get_or c.args.q.steps i no_step).m.coef
own c i h = ap nat_abs (fits_back (get_or c.args.q.steps i no_step).m.coef (omega (arith, limit c i h)))

pub largest-bound-requires : goal.largest-bound-requires
largest-bound-requires c = (c.requires.0.run.beside, c.requires.0.light)

pub loop-i-init : goal.loop-i-init
unfolding steps_of
loop-i-init c = (
  omega arith,
  refl,
  c.requires.0,
  λ log. refl,
  refl,
  refl,
  c.largest-bound.ensures.0,
  omega (arith, c.largest-bound.ensures.1),
)

pub offset_bounds-q-i : goal.offset_bounds-q-i
offset_bounds-q-i c = omega (arith, c.requires.3.few)

pub bounds-q-i : goal.bounds-q-i
bounds-q-i c = omega (arith, c.requires.3.few)

pub overflow_cast-i : goal.overflow_cast-i
overflow_cast-i c = omega (arith, c.requires.3.few, c.loop-i-test.true)

pub take_step-requires : goal.take_step-requires
take_step-requires c = let a = c in
    let v = c.loop-i in (
      v.invariant.2,
      valid (goal.at.take_step-requires c).Start v.i c.loop-i-test.true,
      omega (arith, v.invariant.2.few, v.invariant.4, a.requires.1),
      omega (arith, v.invariant.2.few, v.invariant.5, a.requires.2),
      v.invariant.6,
      omega (arith, v.invariant.7, a.requires.3.few, c.loop-i-test.true),
    )

pub returns-in_err-w : goal.returns-in_err-w
unfolding found_of
returns-in_err-w c = let a = c in
    let v = c.loop-i in
    rw (passed_up _ _ c.from_residual.ensures.1) (record {
      is = λ log. v.invariant.3 log ∙ step-fails a.args.q.steps a.args.q.count v.i (room (goal.at.returns-in_err-w c).Start)
          _ (v.i + 1) log c.loop-i-test.true _ _ c.take_step.ensures.reached.is _ c.in_err-w.ensures;
      form = tt;
    })

pub raised-bound-requires : goal.raised-bound-requires
raised-bound-requires c = let a = c in
    let v = c.loop-i in
    let inside = c.loop-i-test.true in
    (omega (arith, v.invariant.7, a.requires.3.few, inside), omega (arith, own (goal.at.raised-bound-requires c).Start v.i inside, limit (goal.at.raised-bound-requires c).Start v.i inside))

pub loop-i-preserved : goal.loop-i-preserved
loop-i-preserved c =
    let a = c.args in
    let v = c.loop-i in
    let inside = c.loop-i-test.true in
    let w = c.take_step in
    let m = c.in_ok-w.w in
    let g : w.result ≡ Ok m = at_step_ok _ _ _ c.in_ok-w.ensures in
    let form : FormRun m.kind m.count w.new.rows w.new.coefs = IfOk-at_ok _ g w.ensures.reached.form in
    let kind : m.kind ≡ a.kind = IfOk-at_ok (λ x. x.kind ≡ a.kind) g w.ensures.kind in
    let light : Light (v.bound + 7 * nat_abs (get_or a.q.steps v.i no_step).m.coef) m.count w.new.coefs = IfOk-at_ok (λ x. Light (v.bound + 7 * nat_abs (get_or a.q.steps v.i no_step).m.coef) x.count w.new.coefs) g w.ensures.light in
    let e : c.raised-bound.result ≡ v.bound + 7 * nat_abs (get_or a.q.steps v.i no_step).m.coef =
    omega (arith, c.raised-bound.ensures, own (goal.at.loop-i-preserved c).Start v.i inside) in (
      omega arith,
      v.invariant.1,
      subst (λ (k : ℕ). FormRun k m.count w.new.rows w.new.coefs) kind form,
      λ log. v.invariant.3 log ∙ step-reaches a.q.steps a.q.count v.i (room (goal.at.loop-i-preserved c).Start)
          _ (v.i + 1) log inside _ _ w.ensures.reached.is _ c.in_ok-w.ensures
          ∙ ap (λ (k : ℕ). L.replay log (v.i + 1 + 1) (form_by k m.count w.new.rows w.new.coefs) (steps_from a.q.steps a.q.count (v.i + 1))) kind,
      omega (arith, v.invariant.4),
      omega (arith, v.invariant.5),
      subst (λ (k : ℕ). Light k m.count w.new.coefs) (sym e) light,
      omega (arith, e, v.invariant.7, limit (goal.at.loop-i-preserved c).Start v.i inside),
    )

pub returns : goal.returns
unfolding found_of
returns c = let a = c in
    let v = c.loop-i in
    let e : v.i ≡ a.args.q.count = omega (arith, c.loop-i-test.false, v.invariant.0) in
    record {
      is = λ log. v.invariant.3 log ∙ all_taken a.args.q.steps a.args.q.count v.i (room (goal.at.returns c).Start) c.loop-i-test.false log (v.i + 1) _
          ∙ ap (λ (m : ℕ). L.replay log (m + 1) (form_by a.args.kind v.count v.rows v.coefs) []) e;
      form = v.invariant.2;
    }
