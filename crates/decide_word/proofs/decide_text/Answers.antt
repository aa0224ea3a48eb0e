-- `decide_word::decide_text` meets its contract. Assumes nothing.
use native.Mathlib.Omega.{arith}
use mathlib.Core.Path.{sym}
use lib.Seq.{length-take-le}
use Rattle.sides.proofs.Lines.{sides-inside}
use Rattle.formula_lines.proofs.OneLine.{header-column, header-table}
use Rattle.decide_word.proofs.Answers.{names-told, sides-column, sides-told, comparable, more_told, decision_told}
use Rattle.decide_word.proofs.decide_text.Goals as goal

pub tell_line-requires : goal.tell_line-requires
tell_line-requires c =
    (c.in-Err.ensures.inside, header-column _ _ _ _ c.in-Err.ensures)

pub returns-in-Err : goal.returns-in-Err
returns-in-Err c =
    names-told _ _ _ _ c.in-Err.ensures _ c.number.ensures _ _ c.tell_line.ensures

pub slice_bounds-names-end : goal.slice_bounds-names-end
slice_bounds-names-end c = omega (arith, c.in-Ok.ensures.few)

pub slice_bounds-sides_at-end : goal.slice_bounds-sides_at-end
slice_bounds-sides_at-end c =
    sym (length-take-le _ _ (omega (arith, c.in-Ok.ensures.few, c.read_header.auto.names)))

pub slice_bounds-table-end : goal.slice_bounds-table-end
slice_bounds-table-end c = omega (arith, c.in-Ok.ensures.few)

pub slice_bounds-sides_at-end-2 : goal.slice_bounds-sides_at-end-2
slice_bounds-sides_at-end-2 c =
    sym (length-take-le _ _ (omega (arith, c.in-Ok.ensures.few, c.read_header.auto.table)))

pub sides_at-requires : goal.sides_at-requires
sides_at-requires c =
    (header-table _ _ _ _ c.in-Ok.ensures, c.in-Ok.ensures.inside)

pub tell_line-requires-in-Err-sides_at : goal.tell_line-requires-in-Err-sides_at
tell_line-requires-in-Err-sides_at c =
    (c.in-Ok.ensures.inside, sides-column _ _ _ _ c.in-Ok.ensures _ c.in-Err-sides_at.ensures)

pub returns-in-Err-sides_at : goal.returns-in-Err-sides_at
returns-in-Err-sides_at c =
    sides-told _ _ _ _ c.in-Ok.ensures _ c.in-Err-sides_at.ensures _ c.number-in-Err-sides_at.ensures _ _ c.tell_line-in-Err-sides_at.ensures

pub line_behind-q-requires : goal.line_behind-q-requires
line_behind-q-requires c =
    (c.in-Ok.ensures.inside, sides-inside _ _ _ c.in-Ok.h.place _ c.in-Ok-sides_at.ensures)

pub returns-then-q-s : goal.returns-then-q-s
returns-then-q-s c =
    more_told _ _ _ _ c.in-Ok.ensures _ c.in-Ok-sides_at.ensures _ c.line_behind-q.ensures c.if-q-s.true _ c.number-then-q-s.ensures _ _
    c.tell_line-then-q-s.ensures

pub slice_bounds-names-end-2 : goal.slice_bounds-names-end-2
slice_bounds-names-end-2 c =
    omega (arith, c.in-Ok.ensures.few, c.read_header.auto.names)

pub slice_bounds-tell_decision-end : goal.slice_bounds-tell_decision-end
slice_bounds-tell_decision-end c =
    sym (length-take-le _ _ (omega (arith, c.in-Ok.ensures.few, c.read_header.auto.names)))

pub slice_bounds-table-end-2 : goal.slice_bounds-table-end-2
slice_bounds-table-end-2 c =
    omega (arith, c.in-Ok.ensures.few, c.read_header.auto.table)

pub slice_bounds-tell_decision-end-2 : goal.slice_bounds-tell_decision-end-2
slice_bounds-tell_decision-end-2 c =
    sym (length-take-le _ _ (omega (arith, c.in-Ok.ensures.few, c.read_header.auto.table)))

pub tell_decision-requires : goal.tell_decision-requires
tell_decision-requires c =
    comparable _ _ _ _ c.in-Ok.ensures _ c.in-Ok-sides_at.ensures

pub returns : goal.returns
returns c =
    decision_told _ _ _ _ c.in-Ok.ensures _ c.in-Ok-sides_at.ensures _ c.line_behind-q.ensures c.if-q-s.false
    _ _ c.tell_decision.ensures
