use Rattle.std.proofs.Common.{rules}
use native.Mathlib.Omega.{arith}
use Rattle.terms.specs.Abstraction.{part_of}
use Rattle.terms.proofs.InShape.{part-few, too_many_lem, enough}
use Rattle.terms.proofs.shape.letters_in_shape.Goals as goal

pub overflow_add-u : goal.overflow_add-u
overflow_add-u c = omega (arith, c.letters_used-u.ensures.few, c.part_letters.ensures, part-few c.args.p)

pub returns-then-u-part_letters-gt6 : goal.returns-then-u-part_letters-gt6
returns-then-u-part_letters-gt6 c = too_many_lem _ (part_of c.args.p) _ _ c.letters_used-u.ensures c.part_letters.ensures c.if-u-part_letters-gt6.true

pub returns : goal.returns
returns c = enough _ (part_of c.args.p) _ _ c.letters_used-u.ensures c.part_letters.ensures c.if-u-part_letters-gt6.false
