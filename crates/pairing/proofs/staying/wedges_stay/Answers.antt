use Rattle.std.proofs.Common.{rules}
use Rattle.pairing.proofs.Few.{first_some, second_some}
use Rattle.pairing.proofs.staying.wedges_stay.Goals as goal

pub returns-then-vanishing : goal.returns-then-vanishing
returns-then-vanishing c = second_some _ _ _ _ _ c.vanishing.ensures _ c.vanishing-then-vanishing.ensures c.if-vanishing.true

pub returns : goal.returns
returns c = first_some _ _ c.args.c _ _ c.vanishing.ensures c.if-vanishing.false
