use Rattle.std.proofs.Common.{rules}
use Rattle.terms.specs.Abstraction.{part_of}
use Rattle.pairing.proofs.Few.{second-made, first_made}
use Rattle.pairing.proofs.parts.wedge_wedges.Goals as goal

pub returns-then-vanishing : goal.returns-then-vanishing
unfolding part_of
returns-then-vanishing c =
    let v = c in
    let y = c in
    let x = c in
    second-made _ _ _ _ _ _ v.vanishing.ensures v.vanishing-second.ensures _ _ _ _ _ x.triple_number.ensures y.triple_number-2.ensures
    x.with_factor-x.ensures y.with_factor-y.ensures c.if-vanishing.true c.one_unless.ensures

pub returns : goal.returns
unfolding part_of
returns c =
    let v = c in
    let y = c in
    let x = c in
    first_made _ _ _ _ _ _ v.vanishing.ensures v.vanishing-second.ensures _ _ _ _ _ x.triple_number.ensures y.triple_number-2.ensures
    x.with_factor-x.ensures y.with_factor-y.ensures c.if-vanishing.false c.two_unless.ensures
