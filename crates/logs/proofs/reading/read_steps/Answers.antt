-- `logs::reading::read_steps` meets its contract. The loop's invariant: reading the steps that are left behind those that stand gives what reading all gives,
-- and those that stand are in shape. Assumes nothing.
use Rattle.std.proofs.Common.{rules}
use mathlib.Core.List.{List, [], map}
use mathlib.Core.Path.{◌≡◌, refl, ap, sym, ◌∙◌}
use Prim.Native.Nat.{ℕ, suc, ◌+◌, ◌-◌, ◌≤◌, ◌<◌}
use native.Mathlib.Omega.{arith}
use lib.ListN.{length, length-set, take}
use borrow.Author.Tests.{not-true, not-false}
use Rattle.specification.specs.Logs.{read_steps}
use Rattle.specification.specs.Rules as R
use Rattle.theory.specs.Elements.{All}
use Rattle.rules.specs.Steps.{step_of, StepValid}
use Rattle.logs.specs.Steps.{steps_of}
use Rattle.logs.proofs.StepRecords.{turn_refused, turned, steps_given, steps_refused, steps_stand_lem, pushed-steps, pushed-valid}
use Rattle.refusal.proofs.Passing.{passed_up}
use Rattle.logs.proofs.reading.read_steps.Goals as goal

pub no_steps-steps-requires : goal.no_steps-steps-requires
no_steps-steps-requires c = tt

pub loop-i-init : goal.loop-i-init
unfolding steps_of
loop-i-init c =
    let a = c.args in
    let w = c.no_steps-steps in
    let z : a.n - 0 ≡ a.n = omega arith in
    let e : steps_of w.result ≡ [] = ap (λ (m : ℕ). map step_of (take m w.result.steps)) w.ensures.0 in
    (omega arith, w.ensures.0, w.ensures.1, (λ i. read_steps (sym z i) (sym e i) a.s.now a.at), tt)

pub returns-in_err-t : goal.returns-in_err-t
returns-in_err-t c =
    let v = c.loop-i in
    let a = c.args in
    let e : a.n - v.i ≡ suc (a.n - (v.i + 1)) = omega (arith, c.loop-i-test.true) in
    rw (passed_up _ _ c.from_residual.ensures.1)
    (steps_refused _ _ _ (v.invariant.3 ∙ ap (λ (m : ℕ). read_steps m (steps_of v.steps) a.s.now v.next) e ∙ turn_refused a.s.now v.next _ _ _ c.in_err-t.ensures))

pub offset_bounds-steps-i : goal.offset_bounds-steps-i
offset_bounds-steps-i c = omega (arith, c.loop-i-test.true, c.requires)

pub bounds-steps-i : goal.bounds-steps-i
bounds-steps-i c =
    omega (arith, c.loop-i-test.true, c.requires, c.loop-i.invariant.2)

pub loop-i-preserved : goal.loop-i-preserved
loop-i-preserved c =
    let v = c.loop-i in
    let start = c in
    let a = start.args in
    let inside = c.loop-i-test.true in
    let e : a.n - v.i ≡ suc (a.n - (v.i + 1)) = omega (arith, inside) in
    let l : v.i < length v.steps.steps = omega (arith, v.invariant.2, inside, start.requires) in (
      omega arith,
      refl,
      length-set v.steps.steps v.i _ ∙ v.invariant.2,
      v.invariant.3 ∙ ap (λ (m : ℕ). read_steps m (steps_of v.steps) a.s.now v.next) e
          ∙ turned a.s.now v.next _ _ _ _ c.in_ok-t.ensures
          ∙ ap (λ (l : List R.Step). read_steps (a.n - (v.i + 1)) l a.s.now c.in_ok-t.behind) (sym (pushed-steps v.steps _ _ v.i v.invariant.1 refl l refl)),
      pushed-valid v.steps.steps v.i _ l v.invariant.4 c.in_ok-t.ensures.valid,
    )

pub returns : goal.returns
unfolding read_steps
returns c =
    let v = c.loop-i in
    let start = c in
    let a = start.args in
    let e : v.i ≡ a.n = omega (arith, c.loop-i-test.false, v.invariant.0) in
    let z : a.n - v.i ≡ 0 = omega (arith, e) in
    steps_given _ _ _ _ (v.invariant.1 ∙ e) (steps_stand_lem v.steps v.i v.invariant.1 (omega (arith, e, start.requires)) v.invariant.2 v.invariant.4)
    (v.invariant.3 ∙ ap (λ (m : ℕ). read_steps m (steps_of v.steps) a.s.now v.next) z)
