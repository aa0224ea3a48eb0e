use Rattle.std.proofs.Common.{rules}
use Rattle.pair_limits.specs.Limits.{largest}
use Rattle.pair_limits.proofs.one_term.Goals as goal

pub returns : goal.returns
unfolding largest
returns c = let w = c.with_term.ensures in record { vectors = w.vectors; scalars = w.scalars; size = w.size }
