-- `shorten_word::shorten_text` meets its contract. Assumes nothing.
use Rattle.std.proofs.Common.{rules}
use mathlib.Core.List.{[]}
use native.Mathlib.Omega.{arith}
use mathlib.Core.Path.{◌≡◌, sym}
use lib.Seq.{length-take-le}
use lib.ListN.{length}
use Rattle.telling.proofs.Pieces.{told_first}
use Rattle.formula_lines.proofs.Forms.{text-inside}
use Rattle.formula_lines.proofs.OneLine.{header-column, header-table}
use Rattle.shorten_word.proofs.Answers.{names-told, formula_column, formula_told, more_told, log_tellable, names_fit, log-told}
use Rattle.shorten_word.proofs.shorten_text.Goals.{After-derive-d, In-Ok-form_at}
use Rattle.shorten_word.proofs.shorten_text.Goals as goal

form-places : (c : In-Ok-form_at) → length c.in-Ok-form_at.f.terms ≡ 48
form-places c = search rules

last_places : (c : After-derive-d) → length c.derive-d.result.last.terms ≡ 48
last_places c = search rules

pub tell_line-requires : goal.tell_line-requires
tell_line-requires c =
    (c.in-Err.ensures.inside, header-column _ _ _ _ c.in-Err.ensures)

pub returns-in-Err : goal.returns-in-Err
returns-in-Err c =
    names-told _ _ _ _ c.in-Err.ensures _ c.number.ensures _ _ c.tell_line.ensures

pub slice_bounds-names-end : goal.slice_bounds-names-end
slice_bounds-names-end c = omega (arith, c.in-Ok.ensures.few)

pub slice_bounds-form_at-end : goal.slice_bounds-form_at-end
slice_bounds-form_at-end c =
    sym (length-take-le _ _ (omega (arith, c.in-Ok.ensures.few, c.read_header.auto.names)))

pub slice_bounds-table-end : goal.slice_bounds-table-end
slice_bounds-table-end c = omega (arith, c.in-Ok.ensures.few)

pub slice_bounds-form_at-end-2 : goal.slice_bounds-form_at-end-2
slice_bounds-form_at-end-2 c =
    sym (length-take-le _ _ (omega (arith, c.in-Ok.ensures.few, c.read_header.auto.table)))

pub form_at-requires : goal.form_at-requires
form_at-requires c =
    (header-table _ _ _ _ c.in-Ok.ensures, c.in-Ok.ensures.inside)

pub tell_line-requires-in-Err-form_at : goal.tell_line-requires-in-Err-form_at
tell_line-requires-in-Err-form_at c =
    (c.in-Ok.ensures.inside, formula_column _ [] 0 _ _ _ c.in-Ok.ensures _ c.in-Err-form_at.ensures)

pub returns-in-Err-form_at : goal.returns-in-Err-form_at
returns-in-Err-form_at c =
    formula_told _ _ _ _ _ _ c.in-Ok.ensures _ c.in-Err-form_at.ensures _ c.number-in-Err-form_at.ensures c.tell_line-in-Err-form_at.ensures

pub line_behind-q-requires : goal.line_behind-q-requires
line_behind-q-requires c =
    (c.in-Ok.ensures.inside, text-inside _ _ _ c.in-Ok.h.place _ c.in-Ok-form_at.ensures)

pub returns-then-q-s : goal.returns-then-q-s
returns-then-q-s c =
    more_told _ _ _ _ _ _ c.in-Ok.ensures _ c.in-Ok-form_at.ensures _ c.line_behind-q.ensures c.if-q-s.true
    _ c.number-then-q-s.ensures c.tell_line-then-q-s.ensures

pub slice_bounds-table-end-2 : goal.slice_bounds-table-end-2
slice_bounds-table-end-2 c =
    omega (arith, c.in-Ok.ensures.few)

pub slice_bounds-derive-end : goal.slice_bounds-derive-end
slice_bounds-derive-end c =
    sym (length-take-le _ _ (omega (arith, c.in-Ok.ensures.few, c.read_header.auto.table)))

pub derive-d-requires : goal.derive-d-requires
derive-d-requires c =
    c.in-Ok-form_at.ensures.valid

pub slice_bounds-names-end-2 : goal.slice_bounds-names-end-2
slice_bounds-names-end-2 c =
    omega (arith, c.in-Ok.ensures.few, c.read_header.auto.names)

pub slice_bounds-tell_log-end : goal.slice_bounds-tell_log-end
slice_bounds-tell_log-end c =
    sym (length-take-le _ _ (omega (arith, c.in-Ok.ensures.few, c.read_header.auto.names)))

pub slice_bounds-table-end-3 : goal.slice_bounds-table-end-3
slice_bounds-table-end-3 c =
    omega (arith, c.in-Ok.ensures.few, c.read_header.auto.table)

pub slice_bounds-tell_log-end-2 : goal.slice_bounds-tell_log-end-2
slice_bounds-tell_log-end-2 c =
    sym (length-take-le _ _ (omega (arith, c.in-Ok.ensures.few, c.read_header.auto.table)))

pub tell_log-requires : goal.tell_log-requires
tell_log-requires c =
    let p = log_tellable _ [] 0 _ _ _ c.in-Ok.ensures _ c.in-Ok-form_at.ensures _ c.line_behind-q.ensures _
    c.derive-d.ensures in
    (p.0, p.1, p.2, names_fit _ [] 0 _ _ _ c.in-Ok.ensures _ c.in-Ok-form_at.ensures _ c.line_behind-q.ensures _ c.derive-d.ensures)

pub returns : goal.returns
returns c =
    log-told _ _ _ _ _ _ c.in-Ok.ensures _ c.in-Ok-form_at.ensures _ c.line_behind-q.ensures _
    c.derive-d.ensures c.if-q-s.false (form-places (goal.at.returns c).In-Ok-form_at) (last_places (goal.at.returns c).After-derive-d) (told_first c.tell_log.ensures)
