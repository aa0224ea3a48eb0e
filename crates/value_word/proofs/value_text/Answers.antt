-- `value_word::value_text` meets its contract. Assumes nothing.
use native.Mathlib.Omega.{arith}
use mathlib.Core.Path.{sym}
use lib.Seq.{length-take-le}
use Rattle.formula_lines.proofs.OneLine.{header-column, header-table}
use Rattle.value_word.proofs.Answers.{names-told, lines-told, numbers_fit}
use Rattle.value_word.proofs.value_text.Goals as goal

pub tell_line-requires : goal.tell_line-requires
tell_line-requires c =
    (c.in-Err.ensures.inside, header-column _ _ _ _ c.in-Err.ensures)

pub returns-in-Err : goal.returns-in-Err
returns-in-Err c =
    names-told _ _ _ _ c.in-Err.ensures _ c.number.ensures _ _ c.tell_line.ensures

pub slice_bounds-names-end : goal.slice_bounds-names-end
slice_bounds-names-end c = omega (arith, c.in-Ok.ensures.few)

pub slice_bounds-value_behind-end : goal.slice_bounds-value_behind-end
slice_bounds-value_behind-end c =
    sym (length-take-le _ _ (omega (arith, c.in-Ok.ensures.few, c.read_header.auto.names)))

pub slice_bounds-table-end : goal.slice_bounds-table-end
slice_bounds-table-end c = omega (arith, c.in-Ok.ensures.few)

pub slice_bounds-value_behind-end-2 : goal.slice_bounds-value_behind-end-2
slice_bounds-value_behind-end-2 c =
    sym (length-take-le _ _ (omega (arith, c.in-Ok.ensures.few, c.read_header.auto.table)))

pub overflow_mul-numbers : goal.overflow_mul-numbers
overflow_mul-numbers c =
    omega (arith, c.in-Ok.ensures.few)

pub slice_bounds-numbers-end : goal.slice_bounds-numbers-end
slice_bounds-numbers-end c =
    omega (arith, c.in-Ok.ensures.few)

pub slice_bounds-value_behind-end-3 : goal.slice_bounds-value_behind-end-3
slice_bounds-value_behind-end-3 c =
    sym (length-take-le _ _ (omega (arith, c.in-Ok.ensures.few)))

pub value_behind-requires : goal.value_behind-requires
value_behind-requires c = (
  header-table _ _ _ _ c.in-Ok.ensures,
  c.in-Ok.ensures.inside,
  numbers_fit _ _ (c.in-Ok.ensures.few) c.read_header.auto.table,
)

pub returns : goal.returns
returns c =
    lines-told _ _ _ _ c.in-Ok.ensures _ _ c.value_behind.ensures
