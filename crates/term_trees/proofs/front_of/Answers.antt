use Rattle.std.proofs.Common.{rules}
use Rattle.integers.proofs.Machine.{back_is}
use Rattle.term_trees.proofs.Splitting.{front_as}
use Rattle.term_trees.proofs.front_of.Goals as goal

pub returns : goal.returns
returns c = front_as _ _ _ c.requires.0 c.requires.1 (back_is (record { sfits = search rules }))
