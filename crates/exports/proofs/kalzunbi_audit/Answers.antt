-- `exports::kalzunbi_audit` meets its contract: 1, 2, then what the audit says; that they do not agree never comes. Assumes nothing.
use mathlib.Core.Path.{◌∙◌}
use Rattle.integers.proofs.Machine.{back_is}
use native.Mathlib.Omega.{arith}
use Rattle.exports.proofs.ReturnedLogs.{step-stored}
use Rattle.exports.proofs.ReturnedAudits.{audit-table, audit_short, audit_refused, audit-inside, audit_given, never-apart}
use Rattle.exports.proofs.kalzunbi_audit.Goals as goal

pub returns-in-Err : goal.returns-in-Err
returns-in-Err c =
    let w = c.args in
    audit-table w.table.now w.form.now w.out.now w.buffer.now w.work.now w.steps.now _ c.in-Err.ensures _ c.number.ensures _
    (back_is (record { sfits = c.refusal.type_inv }) ∙ c.refusal.ensures)

pub returns-then-steps-lt1 : goal.returns-then-steps-lt1
returns-then-steps-lt1 c =
    let w = c.args in
    audit_short w.table.now w.form.now w.out.now w.buffer.now w.work.now w.steps.now _
    c.in-Ok.ensures c.if-steps-lt1.true _ c.number-then-steps-lt1.ensures _
    (back_is (record { sfits = c.refusal-then-steps-lt1.type_inv }) ∙ c.refusal-then-steps-lt1.ensures)

pub written-requires : goal.written-requires
written-requires c =
    let w = c.args in
    let h = audit-inside w.table.now w.form.now w.out.now w.buffer.now w.work.now w.steps.now _
    c.in-Ok.ensures c.if-steps-lt1.false c.audit-v.result _ _ _ c.audit-v.ensures _ c.in-Agreed.is in
    omega (arith, h)

pub returns-in-Agreed : goal.returns-in-Agreed
returns-in-Agreed c =
    let w = c.args in
    audit_given w.table.now w.form.now w.out.now w.buffer.now w.work.now w.steps.now _
    c.in-Ok.ensures c.if-steps-lt1.false c.audit-v.result _ _ _ c.audit-v.ensures _ c.in-Agreed.is _
    (back_is (record { sfits = c.written.type_inv }) ∙ c.written.ensures) _
    (step-stored w.steps.now _ c.if-steps-lt1.false)

pub returns-in-Refused : goal.returns-in-Refused
returns-in-Refused c =
    let w = c.args in
    audit_refused w.table.now w.form.now w.out.now w.buffer.now w.work.now w.steps.now _
    c.in-Ok.ensures c.if-steps-lt1.false c.audit-v.result _ _ _ c.audit-v.ensures _ c.in-Refused.is _ c.number-in-Refused.ensures _
    (back_is (record { sfits = c.refusal-in-Refused.type_inv }) ∙ c.refusal-in-Refused.ensures)

pub returns-in-Apart : goal.returns-in-Apart
returns-in-Apart c =
    let w = c.args in
    absurd
    (never-apart w.table.now w.form.now w.out.now w.buffer.now w.work.now w.steps.now _
    c.in-Ok.ensures c.if-steps-lt1.false c.audit-v.result _ _ _ c.audit-v.ensures c.in-Apart.is)
