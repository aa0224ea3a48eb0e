use Rattle.std.proofs.Common.{rules}
use Rattle.letters.proofs.LetterTests.{factor_one, factor_two, factor-three}
use Rattle.letters.proofs.test_factor.Goals as goal

pub returns-in-Scalar : goal.returns-in-Scalar
returns-in-Scalar c = factor_one _ _ _ c.letters_of.ensures _ _ c.in-Scalar.is c.test_letter.ensures

pub returns-in-Dot : goal.returns-in-Dot
returns-in-Dot c = factor_two _ _ _ c.letters_of.ensures _ _ _ c.in-Dot.is c.test_two.ensures

pub returns-in-Triple : goal.returns-in-Triple
returns-in-Triple c = factor-three _ _ _ c.letters_of.ensures _ _ _ _ c.in-Triple.is c.test_three.ensures
