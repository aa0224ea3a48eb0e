-- `reduce_word::reduce_text` meets its contract. Assumes nothing.
use Rattle.formula_lines.proofs.OneLine.{header-column, header-table}
use Rattle.reduce_word.proofs.Answers.{header-answer, line-column, line-answer, forms-answer}
use lib.Seq.{length-take-le}
use mathlib.Core.Path.{sym}
use native.Mathlib.Omega.{arith}
use Rattle.reduce_word.proofs.reduce_text.Goals as goal

pub tell_line-requires : goal.tell_line-requires
tell_line-requires c =
    (c.in-Err.ensures.inside, header-column _ _ _ _ c.in-Err.ensures)

pub returns-in-Err : goal.returns-in-Err
returns-in-Err c =
    header-answer _ _ _ _ c.in-Err.ensures _ c.number.ensures _ _ c.tell_line.ensures

pub slice_bounds-names-end : goal.slice_bounds-names-end
slice_bounds-names-end c = omega (arith, c.in-Ok.ensures.few)

pub slice_bounds-reduce_lines-end : goal.slice_bounds-reduce_lines-end
slice_bounds-reduce_lines-end c =
    sym (length-take-le _ _ (omega (arith, c.in-Ok.ensures.few, c.read_header.auto.names)))

pub slice_bounds-table-end : goal.slice_bounds-table-end
slice_bounds-table-end c = omega (arith, c.in-Ok.ensures.few)

pub slice_bounds-reduce_lines-end-2 : goal.slice_bounds-reduce_lines-end-2
slice_bounds-reduce_lines-end-2 c =
    sym (length-take-le _ _ (omega (arith, c.in-Ok.ensures.few, c.read_header.auto.table)))

pub reduce_lines-requires : goal.reduce_lines-requires
reduce_lines-requires c =
    (header-table _ _ _ _ c.in-Ok.ensures, c.in-Ok.ensures.inside)

pub tell_line-requires-in-Err-reduce_lines : goal.tell_line-requires-in-Err-reduce_lines
tell_line-requires-in-Err-reduce_lines c =
    (c.in-Err-reduce_lines.ensures.inside, line-column _ _ _ _ c.in-Ok.ensures _ _ c.in-Err-reduce_lines.ensures)

pub returns-in-Err-reduce_lines : goal.returns-in-Err-reduce_lines
returns-in-Err-reduce_lines c =
    line-answer _ _ _ _ c.in-Ok.ensures _ _ c.in-Err-reduce_lines.ensures _ c.number-in-Err-reduce_lines.ensures _ _ c.tell_line-in-Err-reduce_lines.ensures

pub returns-in-Ok-reduce_lines : goal.returns-in-Ok-reduce_lines
returns-in-Ok-reduce_lines c = forms-answer _ _ _ _ c.in-Ok.ensures _ _ c.in-Ok-reduce_lines.ensures
