use Rattle.std.proofs.Common.{rules}
use Rattle.terms.specs.Abstraction.{term_of, part_of}
use Rattle.pairing.proofs.parts.with_factors.Goals as goal

pub returns : goal.returns
unfolding term_of part_of
returns c = search rules
