use Rattle.std.proofs.Common.{rules}
use Rattle.terms.specs.Abstraction.{part_of}
use Rattle.pairing.proofs.Few.{wedge-made}
use Rattle.pairing.proofs.parts.wedge_alone.Goals as goal

pub returns : goal.returns
unfolding part_of
returns c = wedge-made _ _ _ _ c.alone.ensures c.one_unless.ensures
