use Rattle.expressions.proofs.Heads.{in_table, not_in-table}
use Rattle.expressions.proofs.tokens.test_in_table.Goals as goal

pub returns-then-n-table : goal.returns-then-n-table
returns-then-n-table c = in_table _ _ c.if-n-table.true

pub returns : goal.returns
returns c = not_in-table _ _ c.if-n-table.false
