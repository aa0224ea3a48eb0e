use Rattle.std.proofs.Common.{rules}
use borrow.Author.Tests.{eq-eqb, ne_eqb}
use Rattle.rule_table.specs.Table.{row_count}
use Rattle.rules.proofs.steps.row_count.Goals as goal

pub returns-then-rule-eq5 : goal.returns-then-rule-eq5
unfolding row_count
returns-then-rule-eq5 c = rw (eq-eqb c.args.rule 5 c.if-rule-eq5.true)

pub returns-else-rule-eq5 : goal.returns-else-rule-eq5
unfolding row_count
returns-else-rule-eq5 c = rw (ne_eqb c.args.rule 5 c.if-rule-eq5.false)
