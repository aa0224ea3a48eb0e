-- `picks::choosing::ascend_strictly`. The loop: the numbers ascend strictly exactly if those from number i on do. Assumes nothing.
use native.Mathlib.Omega.{arith}
use mathlib.Core.Path.{◌≡◌, sym, refl, subst, ◌∙◌}
use Prim.Native.Nat.{ℕ, ◌≤◌, ◌<◌, ◌-◌, ◌+◌}
use lib.ListN.{length, take, drop, get_or}
use lib.Dec.{ltb}
use Rattle.specification.specs.Lists.{ascend}
use Rattle.picks.proofs.Picks.{ascend-stops, ascend_more, ascend-ends}
use Rattle.picks.proofs.choosing.ascend_strictly.Goals.{Start}
use Rattle.picks.proofs.choosing.ascend_strictly.Goals as goal

few : (c : Start) → c.args.n ≤ length c.args.f.now
few c = omega (arith, c.requires.0, c.requires.1)

pub loop-i-init : goal.loop-i-init
loop-i-init c = (omega arith, refl)

pub bounds-f-i : goal.bounds-f-i
bounds-f-i c = let w = c in omega (arith, w.requires.0, w.requires.1)

pub bounds-f-i-in-loop-i : goal.bounds-f-i-in-loop-i
bounds-f-i-in-loop-i c = let w = c in omega (arith, w.requires.0, w.requires.1)

pub returns-then-f-i : goal.returns-then-f-i
returns-then-f-i c =
    let w = c in
    let v = c.loop-i in
    let next : v.i ≡ v.i - 1 + 1 = omega (arith, v.invariant.0) in
    sym (sym v.invariant.1 ∙ ascend-stops w.args.f.now w.args.n (v.i - 1) (few (goal.at.returns-then-f-i c).Start) (omega (arith, c.loop-i-test.true))
    (subst (λ (k : ℕ). get_or w.args.f.now k 0 ≤ get_or w.args.f.now (v.i - 1) 0) next c.if-f-i.true))

pub loop-i-preserved : goal.loop-i-preserved
loop-i-preserved c =
    let w = c in
    let v = c.loop-i in
    let next : v.i ≡ v.i - 1 + 1 = omega (arith, v.invariant.0) in
    let after : v.i - 1 + 1 ≡ v.i + 1 - 1 = omega (arith, v.invariant.0) in (
      omega arith,
      subst (λ (k : ℕ). ascend ltb (drop k (take w.args.n w.args.f.now)) ≡ ascend ltb (take w.args.n w.args.f.now)) after
          (sym (ascend_more w.args.f.now w.args.n (v.i - 1) (few (goal.at.loop-i-preserved c).Start) (omega (arith, c.loop-i-test.true))
          (subst (λ (k : ℕ). get_or w.args.f.now (v.i - 1) 0 < get_or w.args.f.now k 0) next c.if-f-i.false)) ∙ v.invariant.1),
    )

pub returns : goal.returns
returns c = let w = c in let v = c.loop-i in sym (ascend-ends w.args.f.now w.args.n (v.i - 1) (few (goal.at.returns c).Start) (omega (arith, c.loop-i-test.false)))
    ∙ v.invariant.1
