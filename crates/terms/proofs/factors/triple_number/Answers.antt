use Rattle.std.proofs.Common.{rules}
use Rattle.terms.proofs.Numbers.{three-letters}
use Rattle.terms.proofs.factors.triple_number.Goals as goal

pub returns : goal.returns
returns c = three-letters _ _ _ _ _ _ c.wide.ensures c.wide-2.ensures c.wide-3.ensures
