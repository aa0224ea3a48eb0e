-- `derivation_word::derivation_text` meets its contract. Assumes nothing.
use mathlib.Core.Path.{refl, ◌∙◌}
use native.Mathlib.Omega.{arith}
use Rattle.derivation_word.proofs.Turns.{answered_none, next_less, answered_more, answered_all}
use Rattle.derivation_word.proofs.derivation_text.Goals as goal

pub loop-p-init : goal.loop-p-init
loop-p-init c =
    (refl, answered_none c.args.s.now c.args.out.now _ c.start-d.ensures.0 c.start-d.ensures.1)

pub slice_bounds-answer_line-count : goal.slice_bounds-answer_line-count
slice_bounds-answer_line-count c = omega (arith, c.line_end-end.ensures.from)

pub slice_bounds-answer_line-start : goal.slice_bounds-answer_line-start
slice_bounds-answer_line-start c = omega (arith, c.line_end-end.ensures.from)

pub slice_bounds-answer_line-end : goal.slice_bounds-answer_line-end
slice_bounds-answer_line-end c = omega (arith, c.line_end-end.ensures.within)

pub answer_line-r-requires : goal.answer_line-r-requires
answer_line-r-requires c = c.loop-p.invariant.1.valid

pub next_place-p-requires : goal.next_place-p-requires
next_place-p-requires c =
    (c.loop-p.invariant.1.inside, c.loop-p-test.true)

pub loop-p-smaller : goal.loop-p-smaller
loop-p-smaller c =
    next_less c.args.s.now c.loop-p.p _ c.loop-p-test.true c.next_place-p.ensures

pub loop-p-preserved : goal.loop-p-preserved
loop-p-preserved c =
    let s = c.args.s.now in
    let v = c.loop-p in (
      c.answer_line-r.auto.out ∙ v.invariant.0,
      answered_more s v.out v.p v.d v.told v.invariant.1 c.loop-p-test.true _ c.line_end-end.ensures _ _ c.answer_line-r.ensures _
          c.next_place-p.ensures,
    )

pub tell_end-requires : goal.tell_end-requires
tell_end-requires c = c.loop-p.invariant.1.valid

pub returns : goal.returns
returns c =
    let s = c.args.s.now in
    let v = c.loop-p in
    answered_all s v.out v.p v.d v.told v.invariant.1 c.loop-p-test.false _ _ c.tell_end.ensures
