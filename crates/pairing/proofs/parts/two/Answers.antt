use Rattle.std.proofs.Common.{rules}
use Rattle.pairing.specs.Parts.{list_of}
use Rattle.terms.specs.Abstraction.{term_of}
use Rattle.pairing.proofs.parts.two.Goals as goal

pub returns : goal.returns
unfolding list_of term_of
returns c = search rules
