use mathlib.Core.Path.{sym, refl, subst, ◌∙◌}
use Rattle.audit.specs.Answers.{verdict_of}
use Rattle.audit.proofs.Audits.{audit-table, buffer_short, work_short, audit_refused, log-inside, audit-agrees}
use lib.Dec.{T}
use lib.Seq.{length-take-le}
use Rattle.audit.proofs.audit.Goals as goal

pub returns-in-Err : goal.returns-in-Err
unfolding verdict_of
returns-in-Err c = audit-table c.args.table.now c.args.form.now c.args.out.now c.args.buffer.now c.args.work.now _ c.in-Err.ensures

pub returns-then-buffer-lt-BUFFER_BYTES : goal.returns-then-buffer-lt-BUFFER_BYTES
unfolding verdict_of
returns-then-buffer-lt-BUFFER_BYTES c =
    buffer_short c.args.table.now c.args.form.now c.args.out.now c.args.buffer.now c.args.work.now _ c.in_default.ensures
    c.if-buffer-lt-BUFFER_BYTES.true

pub returns-then-work-lt-WORK_BYTES : goal.returns-then-work-lt-WORK_BYTES
unfolding verdict_of
returns-then-work-lt-WORK_BYTES c =
    work_short c.args.table.now c.args.form.now c.args.out.now c.args.buffer.now c.args.work.now _ c.in_default.ensures
    c.if-buffer-lt-BUFFER_BYTES.false c.if-work-lt-WORK_BYTES.true

pub slice_bounds-ends_hold-end : goal.slice_bounds-ends_hold-end
slice_bounds-ends_hold-end c =
    log-inside c.args.table.now c.args.form.now c.args.out.now c.args.buffer.now c.args.work.now _
    c.in_default.ensures c.if-buffer-lt-BUFFER_BYTES.false c.if-work-lt-WORK_BYTES.false c.shorten.result _ c.shorten.ensures.answer _ _ c.in-Ok.is

pub slice_bounds-ends_hold-end-in-Ok : goal.slice_bounds-ends_hold-end-in-Ok
slice_bounds-ends_hold-end-in-Ok c =
    sym
    (length-take-le _ _
    (log-inside c.args.table.now c.args.form.now c.args.out.now c.args.buffer.now c.args.work.now _
    c.in_default.ensures c.if-buffer-lt-BUFFER_BYTES.false c.if-work-lt-WORK_BYTES.false c.shorten.result _ c.shorten.ensures.answer _ _ c.in-Ok.is))

pub returns-then-ends_hold : goal.returns-then-ends_hold
unfolding verdict_of
returns-then-ends_hold c =
    audit-agrees c.args.table.now c.args.form.now c.args.out.now c.args.buffer.now c.args.work.now _
    c.in_default.ensures c.if-buffer-lt-BUFFER_BYTES.false c.if-work-lt-WORK_BYTES.false c.shorten.result _ c.shorten.ensures.answer _ _ c.in-Ok.is _ _ _ _
    c.ends_hold.ensures (λ e. refl)

pub returns-in-Err-shorten : goal.returns-in-Err-shorten
unfolding verdict_of
returns-in-Err-shorten c =
    audit_refused c.args.table.now c.args.form.now c.args.out.now c.args.buffer.now c.args.work.now _
    c.in_default.ensures c.if-buffer-lt-BUFFER_BYTES.false c.if-work-lt-WORK_BYTES.false c.shorten.result _ c.shorten.ensures.answer _ c.in-Err-shorten.is

pub returns-else-ends_hold : goal.returns-else-ends_hold
unfolding verdict_of
returns-else-ends_hold c =
    audit-agrees c.args.table.now c.args.form.now c.args.out.now c.args.buffer.now c.args.work.now _
    c.in_default.ensures c.if-buffer-lt-BUFFER_BYTES.false c.if-work-lt-WORK_BYTES.false c.shorten.result _ c.shorten.ensures.answer _ _ c.in-Ok.is _ _ _ _
    c.ends_hold.ensures (λ e. absurd (subst T (sym e ∙ c.if-ends_hold.false) tt))
