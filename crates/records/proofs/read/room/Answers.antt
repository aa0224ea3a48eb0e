use Rattle.std.proofs.Common.{rules}
use Rattle.records.proofs.Readers.{room_none, room_some}
use Rattle.records.proofs.read.room.Goals as goal

pub returns-then-s-n : goal.returns-then-s-n
returns-then-s-n c = room_none _ _ _ c.if-s-n.true

pub returns : goal.returns
returns c = room_some _ _ _ c.if-s-n.false
