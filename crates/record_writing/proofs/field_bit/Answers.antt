-- `record_writing::field_bit` meets its contract: a field is there exactly where the position moved. Assumes nothing.
use Rattle.std.proofs.Common.{rules}
use Rattle.record_writing.proofs.Bits.{moved-bit, still-bit}
use Rattle.record_writing.proofs.field_bit.Goals as goal

pub returns-then-from-to : goal.returns-then-from-to
returns-then-from-to c = moved-bit _ _ _ c.if-from-to.true

pub returns-else-from-to : goal.returns-else-from-to
returns-else-from-to c = still-bit _ _ _ c.if-from-to.false
