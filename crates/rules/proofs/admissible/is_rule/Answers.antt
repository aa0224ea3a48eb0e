use Rattle.std.proofs.Common.{rules}
use native.Mathlib.Omega.{arith}
use borrow.Author.Tests.{le-leb, lt-leb}
use Rattle.specification.specs.Rules.{is_rule}
use Rattle.rules.proofs.admissible.is_rule.Goals as goal

pub returns-in-1-to-5 : goal.returns-in-1-to-5
unfolding is_rule
returns-in-1-to-5 c = rw (le-leb 1 c.args.rule (omega (arith, c.in-1-to-5.if-rule-lt1-own.false)), le-leb c.args.rule 5 (omega (arith, c.in-1-to-5.if-rule-lt6-own.true)))

pub returns-in_default : goal.returns-in_default
unfolding is_rule
returns-in_default c = rw (lt-leb 1 c.args.rule (omega (arith, c.in_default.if-rule-lt1-own.true)))

pub returns-in_default-2 : goal.returns-in_default-2
unfolding is_rule
returns-in_default-2 c = rw (le-leb 1 c.args.rule (omega (arith, c.in_default.if-rule-lt1-own.false)), lt-leb c.args.rule 5 (omega (arith, c.in_default.if-rule-lt6-own.false)))
