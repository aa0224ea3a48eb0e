use Rattle.std.proofs.Common.{rules}
use native.Mathlib.Omega.{arith}
use borrow.Author.Tests.{le-leb, lt-leb}
use Rattle.specification.specs.Rules.{rule_letters}
use Rattle.rules.proofs.steps.rule_letters.Goals as goal

pub returns-in-0-to-2 : goal.returns-in-0-to-2
unfolding rule_letters
returns-in-0-to-2 c = (rw (le-leb c.args.rule 2 (omega (arith, c.in-0-to-2.if-rule-lt3-own.true))), omega arith)

pub returns-in-3-to-4 : goal.returns-in-3-to-4
unfolding rule_letters
returns-in-3-to-4 c = (rw (lt-leb c.args.rule 2 (omega (arith, c.in-3-to-4.if-rule-lt3-own.false)), le-leb c.args.rule 4 (omega (arith, c.in-3-to-4.if-rule-lt5-own.true))), omega arith)

pub returns-in_default : goal.returns-in_default
unfolding rule_letters
returns-in_default c = (rw (lt-leb c.args.rule 2 (omega (arith, c.in_default.if-rule-lt3-own.false)), lt-leb c.args.rule 4 (omega (arith, c.in_default.if-rule-lt5-own.false))), omega arith)
