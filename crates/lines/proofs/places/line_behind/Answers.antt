-- `lines::places::line_behind` meets its contract. Assumes nothing.
use Rattle.std.proofs.Common.{rules}
use Rattle.lines.proofs.Ends.{to_next}
use Rattle.lines.proofs.places.line_behind.Goals as goal

pub returns : goal.returns
returns c = to_next _ _ _ _ c.next_place-q.ensures c.to_line.ensures
