-- `log_texts::reading::read_log_lines` meets its contract, line after line. Assumes nothing.
use Rattle.std.proofs.Common.{rules}
use Rattle.refusal.proofs.Passing.{passed_up}
use Rattle.log_texts.proofs.Lines.{form-inside, first_refused, middle_refused, last_refused, something-left, log_read}
use Rattle.log_texts.proofs.reading.read_log_lines.Goals as goal

pub returns-in_err-first : goal.returns-in_err-first
returns-in_err-first c = rw (passed_up _ _ c.from_residual.ensures.1) (first_refused _ _ _ _ _ c.in_err-first.ensures)

pub line_behind-q-requires : goal.line_behind-q-requires
line_behind-q-requires c = (c.requires.0, form-inside _ _ _ _ _ c.in_ok-first.ensures)

pub read_step_lines-requires : goal.read_step_lines-requires
read_step_lines-requires c = (c.line_behind-q.ensures.inside, c.requires.1)

pub returns-in_err-m : goal.returns-in_err-m
returns-in_err-m c =
    rw (passed_up _ _ c.from_residual-in_err-m.ensures.1)
    (middle_refused _ _ _ _ _ c.in_ok-first.ensures _ c.line_behind-q.ensures _ c.in_err-m.ensures)

pub form_at-requires-2 : goal.form_at-requires-2
form_at-requires-2 c = (c.in_ok-m.ensures.behind, c.requires.1)

pub returns-in_err-last : goal.returns-in_err-last
returns-in_err-last c =
    rw (passed_up _ _ c.from_residual-in_err-last.ensures.1)
    (last_refused _ _ _ _ _ c.in_ok-first.ensures _ c.line_behind-q.ensures _ c.in_ok-m.ensures _ c.in_err-last.ensures)

pub line_behind-end-requires : goal.line_behind-end-requires
line_behind-end-requires c = (c.in_ok-m.ensures.behind, form-inside _ _ _ _ _ c.in_ok-last.ensures)

pub returns-then-end-s : goal.returns-then-end-s
returns-then-end-s c =
    something-left _ _ _ _ _ c.in_ok-first.ensures _ c.line_behind-q.ensures _ c.in_ok-m.ensures _ c.in_ok-last.ensures _
    c.line_behind-end.ensures c.if-end-s.true

pub returns : goal.returns
returns c =
    log_read _ _ _ _ _ c.in_ok-first.ensures _ c.line_behind-q.ensures _ c.in_ok-m.ensures _ c.in_ok-last.ensures _
    c.line_behind-end.ensures c.if-end-s.false
