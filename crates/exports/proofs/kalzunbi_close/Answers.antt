-- `exports::kalzunbi_close` meets its contract. Assumes nothing.
use mathlib.Core.Path.{◌∙◌}
use Rattle.integers.proofs.Machine.{back_is}
use Rattle.exports.proofs.ReturnedOpenLogs.{close-accepted, close_refused}
use Rattle.exports.proofs.kalzunbi_close.Goals as goal

pub returns-in-Ok : goal.returns-in-Ok
returns-in-Ok c = close-accepted _ _ _ c.in-Ok.ensures

pub returns-in-Err : goal.returns-in-Err
returns-in-Err c = close_refused _ _ _ c.in-Err.ensures _ c.number.ensures _ (back_is (record { sfits = c.refusal.type_inv }) ∙ c.refusal.ensures)
