use Rattle.std.proofs.Common.{rules}
use Rattle.terms.specs.Abstraction.{part_of}
use Rattle.pairing.proofs.Few.{triple-made}
use Rattle.pairing.proofs.parts.triple_alone.Goals as goal

pub returns : goal.returns
unfolding part_of
returns c =
    triple-made _ _ _ _ _ _ _ c.vanishing.ensures c.triple_number.ensures c.with_factor.ensures
    c.one_unless.ensures
