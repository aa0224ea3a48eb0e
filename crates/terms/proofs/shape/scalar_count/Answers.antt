use Rattle.std.proofs.Common.{rules}
use native.Mathlib.Omega.{arith}
use Rattle.terms.proofs.InShape.{counted_one, counted_more}
use Rattle.terms.proofs.shape.scalar_count.Goals as goal

pub returns-then-letter_count-eq1 : goal.returns-then-letter_count-eq1
returns-then-letter_count-eq1 c = ((counted_one _ _ c.letter_count.ensures c.if-letter_count-eq1.true).1, omega arith)

pub returns-else-letter_count-eq1 : goal.returns-else-letter_count-eq1
returns-else-letter_count-eq1 c = ((counted_more _ _ c.letter_count.ensures c.if-letter_count-eq1.false).1, omega arith)
