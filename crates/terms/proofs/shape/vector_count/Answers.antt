use Rattle.std.proofs.Common.{rules}
use native.Mathlib.Omega.{arith}
use Rattle.terms.proofs.Letters.{letters-long}
use Rattle.terms.proofs.InShape.{counted_one, counted_more}
use Rattle.terms.proofs.shape.vector_count.Goals as goal

pub returns-then-n-eq1 : goal.returns-then-n-eq1
returns-then-n-eq1 c = ((counted_one _ _ c.letter_count-n.ensures c.if-n-eq1.true).0, omega arith)

pub returns-else-n-eq1 : goal.returns-else-n-eq1
returns-else-n-eq1 c = ((counted_more _ _ c.letter_count-n.ensures c.if-n-eq1.false).0, omega (arith, c.letter_count-n.ensures, (letters-long c.args.k).1))
