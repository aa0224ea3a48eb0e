-- `kalzunbi::typing::answer_whole` meets its contract. Assumes nothing.
use Rattle.std.proofs.Common.{rules}
use Prim.Native.Nat.{◌-◌}
use native.Mathlib.Omega.{arith}
use lib.ListN.{length}
use Rattle.kalzunbi.specs.Progress.{InText}
use Rattle.kalzunbi.proofs.typing.answer_whole.Goals as goal

pub loop-q-init : goal.loop-q-init
loop-q-init c = c.requires

pub line_end-end-requires : goal.line_end-end-requires
line_end-end-requires c = omega (arith, c.loop-q-test.true)

pub returns-then-end-n : goal.returns-then-end-n
returns-then-end-n c = c.loop-q.invariant

pub slice_bounds-answer_one-count : goal.slice_bounds-answer_one-count
slice_bounds-answer_one-count c = omega (arith, c.line_end-end.ensures.from)

pub slice_bounds-answer_one-start : goal.slice_bounds-answer_one-start
slice_bounds-answer_one-start c = omega (arith, c.line_end-end.ensures.from)

pub slice_bounds-answer_one-end : goal.slice_bounds-answer_one-end
slice_bounds-answer_one-end c = omega (arith, c.line_end-end.ensures.within)

pub answer_one-next-requires : goal.answer_one-next-requires
answer_one-next-requires c = c.loop-q.invariant.valid

pub overflow_add-q : goal.overflow_add-q
overflow_add-q c =
    let c8 = c in
    let v = c8.loop-q.invariant in omega (arith, v.few, v.within, v.small)

pub overflow_add-q-in-loop-q : goal.overflow_add-q-in-loop-q
overflow_add-q-in-loop-q c =
    let c5 = c in
    let c8 = c in
    omega (arith, c8.loop-q.invariant.small, c5.line_end-end.ensures.within)

pub loop-q-smaller : goal.loop-q-smaller
loop-q-smaller c = omega (arith, c.line_end-end.ensures.from, c.if-end-n.false)

pub loop-q-preserved : goal.loop-q-preserved
loop-q-preserved c =
    let c4 = c in
    let c5 = c in
    let c8 = c in
    let v = c8.loop-q.invariant in
    let e = c5.line_end-end.ensures in
    record { small = v.small; valid = c.answer_one-next.ensures; within = omega (arith, c4.if-end-n.false); few = omega (arith, v.few, e.from) }

pub returns : goal.returns
returns c = c.loop-q.invariant
