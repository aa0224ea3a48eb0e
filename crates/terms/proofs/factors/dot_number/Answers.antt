use Rattle.std.proofs.Common.{rules}
use Rattle.terms.proofs.Numbers.{two_letters}
use Rattle.terms.proofs.factors.dot_number.Goals as goal

pub returns : goal.returns
returns c = two_letters _ _ _ _ c.wide.ensures c.wide-2.ensures
