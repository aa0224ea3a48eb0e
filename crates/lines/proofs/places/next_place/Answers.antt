-- `lines::places::next_place` meets its contract. Assumes nothing.
use Rattle.std.proofs.Common.{rules}
use native.Mathlib.Omega.{arith}
use Rattle.lines.proofs.Ends.{next_behind, next-end}
use Rattle.lines.proofs.places.next_place.Goals as goal

pub returns-then-end-n : goal.returns-then-end-n
returns-then-end-n c = next_behind _ _ c.requires.0 c.requires.1 _ c.line_end-end.ensures c.if-end-n.true

pub returns : goal.returns
returns c = next-end _ _ c.requires.0 c.requires.1 _ c.line_end-end.ensures c.if-end-n.false
