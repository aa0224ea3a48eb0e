use Rattle.std.proofs.Common.{rules}
use native.Mathlib.Omega.{arith}
use borrow.Author.Tests.{eq-eqb, ne_eqb}
use Rattle.specification.specs.Rules.{rule_kind}
use Rattle.rules.proofs.steps.rule_kind.Goals as goal

pub returns-in-3 : goal.returns-in-3
unfolding rule_kind
returns-in-3 c = rw (eq-eqb c.args.rule 3 c.in-3.is)

pub returns-in-5 : goal.returns-in-5
unfolding rule_kind
returns-in-5 c = rw (ne_eqb c.args.rule 3 (omega (arith, c.in-5.is)), eq-eqb c.args.rule 5 c.in-5.is)

pub returns-in_default : goal.returns-in_default
unfolding rule_kind
returns-in_default c = rw (ne_eqb c.args.rule 3 c.in_default.in_default-own.rest.0.1, ne_eqb c.args.rule 5 c.in_default.in_default-own.rest.1)
