use Prim.Native.Nat.{ℕ}
use Rattle.forms.proofs.Takers.{bytes_all}
use Rattle.audit.proofs.Audits.{refused_audit, other-steps, ends-audited, decided_as}
use Rattle.audit.proofs.ends_hold.Goals as goal

pub returns-in_default : goal.returns-in_default
returns-in_default c =
    refused_audit c.args.table.now c.args.log.now (bytes_all c.args.log.now (λ (k : ℕ). (c.type_inv.log k).fits)) c.args.steps
    c.args.buffer.now c.args.work.now _ c.check.ensures _ _ _ c.in_default.is

pub returns-then-a-steps : goal.returns-then-a-steps
returns-then-a-steps c =
    other-steps c.args.table.now c.args.log.now (bytes_all c.args.log.now (λ (k : ℕ). (c.type_inv.log k).fits)) c.args.steps
    c.args.buffer.now c.args.work.now _ c.check.ensures _ c.in-Ok.is _ _ c.if-a-steps.true

pub returns : goal.returns
returns c =
    ends-audited c.args.table.now c.args.log.now (bytes_all c.args.log.now (λ (k : ℕ). (c.type_inv.log k).fits)) c.args.steps
    c.args.buffer.now c.args.work.now _ c.check.ensures _ c.in-Ok.is _ _ _ _ c.if-a-steps.false c.says_holds.ensures
    (decided_as _ _ _ _ _ _ _ _ _ _ c.first_form-first.ensures c.last_form-last.ensures c.decide.ensures)
