use Rattle.std.proofs.Common.{rules}
use Rattle.specification.specs.Reduction.{dot_parts}
use Rattle.pairing.proofs.Few.{four-factors}
use Rattle.pairing.proofs.parts.dot_wedges.Goals as goal

pub returns : goal.returns
unfolding dot_parts
returns c =
    four-factors _ _ _ _ _ _ _ _ _ _ _ c.dot_number.ensures
    c.dot_number-2.ensures c.dot_number-3.ensures
    c.dot_number-4.ensures
    c.with_factors-t.ensures c.with_factors-u.ensures c.two.ensures
