-- `value_word::value_behind` meets its contract. Assumes nothing.
use Rattle.telling.proofs.Pieces.{tells-then, told_first}
use Rattle.value_telling.proofs.Values.{form_small}
use Rattle.formula_lines.proofs.Forms.{names-named, text-inside}
use Rattle.value_word.proofs.Answers.{assigned-inside, assigned-small, formula_column, formula_told, assigned-column, assigned-told, more_told, value_told}
use Rattle.value_word.proofs.value_behind.Goals as goal

pub tell_line-requires : goal.tell_line-requires
tell_line-requires c = (c.requires.1, formula_column _ _ _ c.args.p _ c.in-Err.ensures)

pub returns-in-Err : goal.returns-in-Err
returns-in-Err c = formula_told _ _ _ c.args.p _ c.in-Err.ensures _ c.number.ensures _ _ c.tell_line.ensures

pub line_behind-q-requires : goal.line_behind-q-requires
line_behind-q-requires c =
    (c.requires.1, text-inside _ _ _ c.args.p _ c.in-Ok.ensures)

pub assigned_at-requires : goal.assigned_at-requires
assigned_at-requires c =
    (names-named _ _ c.requires.0, c.line_behind-q.ensures.inside, c.requires.2)

pub tell_line-requires-in-Err-assigned_at : goal.tell_line-requires-in-Err-assigned_at
tell_line-requires-in-Err-assigned_at c = (
  c.line_behind-q.ensures.inside,
  assigned-column _ _ _ c.args.p _ c.in-Ok.ensures _ c.line_behind-q.ensures _ _ c.in-Err-assigned_at.ensures,
)

pub returns-in-Err-assigned_at : goal.returns-in-Err-assigned_at
returns-in-Err-assigned_at c =
    assigned-told _ _ _ c.args.p _ c.in-Ok.ensures _ c.line_behind-q.ensures _ _ c.in-Err-assigned_at.ensures _ c.number-in-Err-assigned_at.ensures
    _ _ c.tell_line-in-Err-assigned_at.ensures

pub line_behind-end-requires : goal.line_behind-end-requires
line_behind-end-requires c =
    (c.line_behind-q.ensures.inside, assigned-inside _ _ _ _ c.line_behind-q.result _ c.in-Ok-assigned_at.ensures)

pub returns-then-end-s : goal.returns-then-end-s
returns-then-end-s c =
    more_told _ _ _ c.args.p _ c.in-Ok.ensures _ c.line_behind-q.ensures _ _ c.in-Ok-assigned_at.ensures _
    c.line_behind-end.ensures c.if-end-s.true _ c.number-then-end-s.ensures _ _ c.tell_line-then-end-s.ensures

pub form_value-v-requires : goal.form_value-v-requires
form_value-v-requires c = (
  assigned-small c.args.s.now c.args.names.now c.args.table.now _ c.line_behind-q.result _ c.in-Ok-assigned_at.ensures,
  c.in-Ok.ensures.valid,
)

pub tell_value-at-requires : goal.tell_value-at-requires
tell_value-at-requires c =
    form_small _ _ _
    (assigned-small c.args.s.now c.args.names.now c.args.table.now _ c.line_behind-q.result _ c.in-Ok-assigned_at.ensures)
    (c.in-Ok.ensures.valid) c.form_value-v.ensures

pub returns : goal.returns
returns c =
    value_told _ _ _ c.args.p _ c.in-Ok.ensures _ c.line_behind-q.ensures _ _ c.in-Ok-assigned_at.ensures _
    c.line_behind-end.ensures c.if-end-s.false _ c.form_value-v.ensures _ _ (told_first (tells-then c.tell_value-at.ensures c.put_byte.ensures))
