use Rattle.std.proofs.Common.{rules}
use Rattle.terms.specs.Abstraction.{part_of}
use Rattle.pairing.proofs.Few.{one_factor}
use Rattle.pairing.proofs.parts.dot_alone.Goals as goal

pub returns : goal.returns
unfolding part_of
returns c = one_factor _ _ _ _ _ _ c.dot_number.ensures c.with_factor.ensures c.one.ensures
