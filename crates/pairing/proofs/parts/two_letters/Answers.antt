use Rattle.std.proofs.Common.{rules}
use Rattle.terms.specs.Abstraction.{part_of}
use Rattle.pairing.proofs.Few.{two_made}
use Rattle.pairing.proofs.parts.two_letters.Goals as goal

pub returns : goal.returns
unfolding part_of
returns c = two_made _ _ _ _ _ c.with_factor.ensures c.with_factor-2.ensures c.two.ensures
