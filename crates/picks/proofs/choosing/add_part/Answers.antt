use Rattle.std.proofs.Common.{rules}
use mathlib.Core.Path.{ap}
use Rattle.picks.proofs.Pools.{adds_both, adds_as, adds_first, pooled_none, pooled_as}
use Rattle.terms.specs.Abstraction.{part_of}
use Rattle.picks.proofs.choosing.add_part.Goals as goal

pub add_letter-requires-in-Wedge : goal.add_letter-requires-in-Wedge
add_letter-requires-in-Wedge c = (c.add_letter-a.ensures.few, c.add_letter-a.ensures.places, search rules)

pub returns-in-Nothing : goal.returns-in-Nothing
unfolding part_of
returns-in-Nothing c = pooled_as (ap part_of c.in-Nothing.is) (pooled_none _ c.requires)

pub returns-in-Letter : goal.returns-in-Letter
unfolding part_of
returns-in-Letter c = adds_first c.requires (adds_as (ap part_of c.in-Letter.is)
    c.add_letter.ensures)

pub returns-in-Wedge : goal.returns-in-Wedge
unfolding part_of
returns-in-Wedge c = adds_first c.requires (adds_as (ap part_of c.in-Wedge.is) (adds_both c.add_letter-a.ensures c.add_letter-in-Wedge.ensures))
