use Rattle.std.proofs.Common.{rules}
use Rattle.pairing.specs.Parts.{list_of}
use Rattle.pairing.proofs.parts.none.Goals as goal

pub returns : goal.returns
unfolding list_of
returns c = search rules
