use Rattle.std.proofs.Common.{rules}
use Rattle.pairing.specs.Parts.{parts_of}
use Rattle.pairing.proofs.Few.{together-times, by-operation}
use Rattle.pairing.proofs.parts.parts.Goals as goal

pub times_parts-requires : goal.times_parts-requires
times_parts-requires c = together-times _ _ _ c.in-Times.is c.requires

pub returns-in-Times : goal.returns-in-Times
unfolding parts_of
returns-in-Times c = by-operation _ _ _ _ _ c.in-Times.is c.times_parts.ensures

pub returns-in-Dot : goal.returns-in-Dot
unfolding parts_of
returns-in-Dot c = by-operation _ _ _ _ _ c.in-Dot.is c.dot_parts.ensures

pub returns-in-Wedge : goal.returns-in-Wedge
unfolding parts_of
returns-in-Wedge c = by-operation _ _ _ _ _ c.in-Wedge.is c.wedge_parts.ensures
