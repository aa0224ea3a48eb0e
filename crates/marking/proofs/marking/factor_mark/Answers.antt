use native.Mathlib.Omega.{arith}
use Rattle.marking.proofs.MarkSizes.{two_small, three-small, scalar-mark, dot-mark, triple-mark}
use Rattle.marking.proofs.marking.factor_mark.Goals as goal

pub overflow_mul-result : goal.overflow_mul-result
overflow_mul-result c = omega (arith, two_small _ _ c.letter_mark-a.ensures.1 c.letter_mark-b.ensures.1)

pub overflow_mul-result-in-Triple : goal.overflow_mul-result-in-Triple
overflow_mul-result-in-Triple c = omega (arith, two_small _ _ c.letter_mark-a-in-Triple.ensures.1 c.letter_mark-b-in-Triple.ensures.1)

pub overflow_mul-result-in-Triple-2 : goal.overflow_mul-result-in-Triple-2
overflow_mul-result-in-Triple-2 c = omega (arith, three-small _ _ _ c.letter_mark-a-in-Triple.ensures.1 c.letter_mark-b-in-Triple.ensures.1 c.letter_mark-c.ensures.1)

pub returns-in-Scalar : goal.returns-in-Scalar
returns-in-Scalar c = scalar-mark _ _ c.letters_of-f.ensures _ _ c.in-Scalar.is c.letter_mark.ensures

pub returns-in-Dot : goal.returns-in-Dot
returns-in-Dot c =
    dot-mark _ _ c.letters_of-f.ensures _ _ _ _ c.in-Dot.is c.letter_mark-a.ensures
    c.letter_mark-b.ensures

pub returns-in-Triple : goal.returns-in-Triple
returns-in-Triple c =
    triple-mark _ _ c.letters_of-f.ensures _ _ _ _ _ _ c.in-Triple.is
    c.letter_mark-a-in-Triple.ensures c.letter_mark-b-in-Triple.ensures c.letter_mark-c.ensures
