-- `picks::choosing::take_by_mask`. The loop: the numbers taken are those of the first i at which the mask has a 1. Assumes nothing.
use native.Mathlib.Omega.{arith}
use Prim.Native.Nat.{◌≤◌}
use lib.ListN.{length}
use Rattle.picks.proofs.Masks.{under_none, under_all, under_as, under_taken, under_left}
use Rattle.picks.proofs.choosing.take_by_mask.Goals.{Start, else-b-eq1, then-b-eq1}
use Rattle.picks.proofs.choosing.take_by_mask.Goals as goal

few : (c : Start) → c.args.n ≤ length c.args.from.now
few c = omega (arith, c.requires.0, c.requires.1)

pub loop-i-init : goal.loop-i-init
loop-i-init c = (omega arith, under_none c.args.from.now c.args.n c.args.mask (few (goal.at.loop-i-init c).Start) c.requires.0 c.args.to.now c.requires.2)

pub bounds-from-i : goal.bounds-from-i
bounds-from-i c = let w = c in omega (arith, w.requires.0, w.requires.1)

pub offset_bounds-to-k : goal.offset_bounds-to-k
offset_bounds-to-k c = omega (arith, c.loop-i.invariant.1.few)

pub bounds-to-k : goal.bounds-to-k
bounds-to-k c = let v = c.loop-i in omega (arith, v.invariant.1.few, v.invariant.1.places, c.requires.0)

pub overflow_add-c : goal.overflow_add-c
overflow_add-c c = let v = c.loop-i in omega (arith, v.invariant.1.few, c.requires.0)

pub loop-i-preserved : goal.loop-i-preserved
loop-i-preserved c = let w = c in
    let v = c.loop-i in
    let inside = c.loop-i-test.true in (
      omega arith,
      elim c.if-b-eq1.branch [
        | then-b-eq1 k ↦ under_as k.to-is k.c-is (under_taken w.args.from.now w.args.n w.args.mask (few (goal.at.loop-i-preserved c).Start) w.requires.0 v.to v.b v.c
            v.i inside v.invariant.1 k.if-b-eq1.true)
        | else-b-eq1 k ↦ under_as k.to-is k.c-is (under_left w.args.from.now w.args.n w.args.mask (few (goal.at.loop-i-preserved c).Start) w.requires.0 v.to v.b v.c
            v.i inside v.invariant.1 k.if-b-eq1.false)
      ],
    )

pub returns : goal.returns
returns c =
    let w = c in
    let v = c.loop-i in
    under_all w.args.from.now w.args.n w.args.mask (few (goal.at.returns c).Start) w.requires.0 v.to v.b v.c v.i (omega (arith, c.loop-i-test.false, v.invariant.0))
    v.invariant.1
