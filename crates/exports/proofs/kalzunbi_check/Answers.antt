-- `exports::kalzunbi_check` meets its contract: 1, then 2, then what the checker says. Assumes nothing.
use mathlib.Core.Path.{◌∙◌}
use Rattle.integers.proofs.Machine.{back_is}
use Rattle.exports.proofs.Returning.{table_refused, places_short, log_refused, log-accepted}
use Rattle.exports.proofs.kalzunbi_check.Goals as goal

pub returns-in-Err : goal.returns-in-Err
returns-in-Err c = table_refused _ _ _ _ c.in-Err.ensures _ c.number.ensures _ (back_is (record { sfits = c.refusal_at.type_inv }) ∙ c.refusal_at.ensures)

pub returns-then-places-lt3 : goal.returns-then-places-lt3
returns-then-places-lt3 c =
    places_short _ _ _ _ c.in-Ok.ensures c.if-places-lt3.true _ c.number-then-places-lt3.ensures _
    (back_is (record { sfits = c.refusal_at-then-places-lt3.type_inv }) ∙ c.refusal_at-then-places-lt3.ensures)

pub returns-in-Ok-check : goal.returns-in-Ok-check
returns-in-Ok-check c = log-accepted _ _ _ _ c.in-Ok.ensures c.if-places-lt3.false _ c.in-Ok-check.ensures _ c.put_places.ensures

pub returns-in-Err-check : goal.returns-in-Err-check
returns-in-Err-check c =
    log_refused _ _ _ _ c.in-Ok.ensures c.if-places-lt3.false _ c.in-Err-check.ensures _ c.number-in-Err-check.ensures _
    (back_is (record { sfits = c.refusal_at-in-Err-check.type_inv }) ∙ c.refusal_at-in-Err-check.ensures)
