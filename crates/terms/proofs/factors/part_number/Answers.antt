use Rattle.std.proofs.Common.{rules}
use Rattle.terms.proofs.Numbers.{nothing-number, letter-number, wedge-number}
use Rattle.terms.proofs.factors.part_number.Goals as goal

pub returns-in-Nothing : goal.returns-in-Nothing
returns-in-Nothing c = nothing-number _ c.in-Nothing.is

pub returns-in-Letter : goal.returns-in-Letter
returns-in-Letter c = letter-number _ _ _ c.scalar_number.ensures c.in-Letter.is

pub returns-in-Wedge : goal.returns-in-Wedge
returns-in-Wedge c = wedge-number _ _ _ _ c.dot_number.ensures c.in-Wedge.is
