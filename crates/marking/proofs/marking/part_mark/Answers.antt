use native.Mathlib.Omega.{arith}
use mathlib.Core.Path.{ap}
use Rattle.terms.specs.Abstraction.{part_of}
use Rattle.marking.proofs.MarkSizes.{two_small, nothing-mark, letter-part-mark, wedge-mark}
use Rattle.marking.proofs.marking.part_mark.Goals as goal

pub overflow_mul-result : goal.overflow_mul-result
overflow_mul-result c = omega (arith, two_small _ _ c.letter_mark-a.ensures.1 c.letter_mark-b.ensures.1)

pub returns-in-Nothing : goal.returns-in-Nothing
unfolding part_of
returns-in-Nothing c = nothing-mark _ (ap part_of c.in-Nothing.is)

pub returns-in-Letter : goal.returns-in-Letter
unfolding part_of
returns-in-Letter c = letter-part-mark _ _ _ (ap part_of c.in-Letter.is) c.letter_mark.ensures

pub returns-in-Wedge : goal.returns-in-Wedge
unfolding part_of
returns-in-Wedge c = wedge-mark _ _ _ _ _ (ap part_of c.in-Wedge.is) c.letter_mark-a.ensures c.letter_mark-b.ensures
