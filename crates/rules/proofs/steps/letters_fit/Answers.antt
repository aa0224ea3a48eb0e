use Rattle.std.proofs.Common.{rules}
use native.Mathlib.Omega.{arith}
use Rattle.rules.proofs.Taking.{letters-are}
use Rattle.terms.proofs.InShape.{part-few}
use Rattle.rules.proofs.steps.letters_fit.Goals as goal

pub overflow_add-result : goal.overflow_add-result
overflow_add-result c = omega (arith, c.letters_used-u.ensures.few, c.part_letters.ensures, part-few c.args.s.m.part)

pub overflow_add-result-2 : goal.overflow_add-result-2
overflow_add-result-2 c = omega (arith, c.letters_used-u.ensures.few, c.part_letters.ensures, part-few c.args.s.m.part, c.rule_letters.ensures.1)

pub returns : goal.returns
returns c = letters-are c.args.s _ _ _ c.letters_used-u.ensures c.part_letters.ensures c.rule_letters.ensures.0
