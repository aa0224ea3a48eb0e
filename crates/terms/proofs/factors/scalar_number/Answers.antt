use Rattle.std.proofs.Common.{rules}
use Rattle.terms.proofs.Numbers.{one_letter}
use Rattle.terms.proofs.factors.scalar_number.Goals as goal

pub returns : goal.returns
returns c = one_letter _ _ c.wide.ensures
