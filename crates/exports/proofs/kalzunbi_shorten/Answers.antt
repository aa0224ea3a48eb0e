-- `exports::kalzunbi_shorten` meets its contract: 1, then 2, then what shortening says. Assumes nothing.
use native.Mathlib.Omega.{arith}
use mathlib.Core.Path.{◌∙◌}
use Rattle.integers.proofs.Machine.{back_is}
use Rattle.exports.proofs.ReturnedLogs.{step-stored, written_short, shorten-table, shorten_short, shorten_refused, shorten_given}
use Rattle.exports.proofs.kalzunbi_shorten.Goals as goal

pub returns-in-Err : goal.returns-in-Err
returns-in-Err c = shorten-table _ _ _ _ _ c.in-Err.ensures _ c.number.ensures _ (back_is (record { sfits = c.refusal.type_inv }) ∙ c.refusal.ensures)

pub returns-then-steps-lt1 : goal.returns-then-steps-lt1
returns-then-steps-lt1 c =
    shorten_short _ _ _ _ _ c.in-Ok.ensures c.if-steps-lt1.true _ c.number-then-steps-lt1.ensures _
    (back_is (record { sfits = c.refusal-then-steps-lt1.type_inv }) ∙ c.refusal-then-steps-lt1.ensures)

pub written-requires : goal.written-requires
written-requires c = omega (arith, written_short _ c.in-Ok-shorten.ensures.short)

pub returns-in-Ok-shorten : goal.returns-in-Ok-shorten
returns-in-Ok-shorten c =
    shorten_given c.args.table.now c.args.form.now c.args.out.now c.args.steps.now _ c.in-Ok.ensures c.if-steps-lt1.false _ _ c.in-Ok-shorten.ensures.answer _
    (back_is (record { sfits = c.written.type_inv }) ∙ c.written.ensures) _ (step-stored c.args.steps.now _ c.if-steps-lt1.false)

pub returns-in-Err-shorten : goal.returns-in-Err-shorten
returns-in-Err-shorten c =
    shorten_refused _ _ _ _ _ c.in-Ok.ensures c.if-steps-lt1.false _ _ c.in-Err-shorten.ensures.answer _ c.number-in-Err-shorten.ensures _
    (back_is (record { sfits = c.refusal-in-Err-shorten.type_inv }) ∙ c.refusal-in-Err-shorten.ensures)
