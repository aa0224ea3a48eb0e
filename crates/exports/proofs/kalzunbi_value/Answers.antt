-- `exports::kalzunbi_value` meets its contract: 1, then 2, then what the value call says. Assumes nothing.
use mathlib.Core.Path.{◌∙◌}
use Rattle.integers.proofs.Machine.{back_is}
use Rattle.exports.proofs.Returning.{table-returned, short_returned, value_refused, value_returned_lem}
use Rattle.exports.proofs.kalzunbi_value.Goals as goal

pub returns-in-Err : goal.returns-in-Err
returns-in-Err c = table-returned _ _ _ _ _ c.in-Err.ensures _ c.number.ensures _ (back_is (record { sfits = c.refusal.type_inv }) ∙ c.refusal.ensures)

pub returns-then-values-lt3 : goal.returns-then-values-lt3
returns-then-values-lt3 c =
    short_returned _ _ _ _ _ c.in-Ok.ensures c.if-values-lt3.true _ c.number-then-values-lt3.ensures _
    (back_is (record { sfits = c.refusal-then-values-lt3.type_inv }) ∙ c.refusal-then-values-lt3.ensures)

pub returns-in-Ok-value : goal.returns-in-Ok-value
returns-in-Ok-value c = value_returned_lem _ _ _ _ _ c.in-Ok.ensures c.if-values-lt3.false _ c.in-Ok-value.ensures _ c.put.ensures

pub returns-in-Err-value : goal.returns-in-Err-value
returns-in-Err-value c =
    value_refused _ _ _ _ _ c.in-Ok.ensures c.if-values-lt3.false _ c.in-Err-value.ensures _ c.number-in-Err-value.ensures _
    (back_is (record { sfits = c.refusal-in-Err-value.type_inv }) ∙ c.refusal-in-Err-value.ensures)
