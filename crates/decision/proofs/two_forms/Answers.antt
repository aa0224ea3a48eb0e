-- `decision::two_forms` meets its contract. Assumes nothing.
use Rattle.refusal.proofs.Passing.{passed_up}
use Rattle.decision.proofs.Deciding.{table_refused, buffer_refused, work_refused, forms_refused, kinds_refused, forms_taken}
use Rattle.decision.proofs.two_forms.Goals as goal

pub returns-in_err-check_table : goal.returns-in_err-check_table
returns-in_err-check_table c = rw (passed_up _ _ c.from_residual.ensures.1) (table_refused _ _ _ _ _ _ c.in_err-check_table.ensures)

pub returns-then-buffer-lt-BUFFER_BYTES : goal.returns-then-buffer-lt-BUFFER_BYTES
returns-then-buffer-lt-BUFFER_BYTES c = buffer_refused _ _ _ _ _ _ c.in_ok-check_table.ensures c.if-buffer-lt-BUFFER_BYTES.true

pub returns-then-work-lt-WORK_BYTES : goal.returns-then-work-lt-WORK_BYTES
returns-then-work-lt-WORK_BYTES c = work_refused _ _ _ _ _ _ c.in_ok-check_table.ensures c.if-buffer-lt-BUFFER_BYTES.false c.if-work-lt-WORK_BYTES.true

pub returns-in_err-f : goal.returns-in_err-f
returns-in_err-f c = rw (passed_up _ _ c.from_residual-in_err-f.ensures.1)
    (forms_refused _ _ _ _ _ _ c.in_ok-check_table.ensures c.if-buffer-lt-BUFFER_BYTES.false c.if-work-lt-WORK_BYTES.false _ c.in_err-f.ensures)

pub returns-then-f-g : goal.returns-then-f-g
returns-then-f-g c =
    kinds_refused _ _ _ _ _ _ c.in_ok-check_table.ensures c.if-buffer-lt-BUFFER_BYTES.false c.if-work-lt-WORK_BYTES.false _ _ c.in_ok-f.ensures c.if-f-g.true

pub returns : goal.returns
returns c =
    forms_taken _ _ _ _ _ _ c.in_ok-check_table.ensures c.if-buffer-lt-BUFFER_BYTES.false c.if-work-lt-WORK_BYTES.false _ _ c.in_ok-f.ensures c.if-f-g.false
