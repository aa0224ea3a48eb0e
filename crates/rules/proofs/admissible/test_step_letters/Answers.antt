-- `rules::admissible::test_step_letters` meets its contract. Assumes nothing.
use Rattle.std.proofs.Common.{rules}
use Rattle.refusal.proofs.Passing.{passed_up}
use Rattle.rules.proofs.Alone.{rule_letters-stop, rule_letters-pass}
use Rattle.rules.proofs.admissible.test_step_letters.Goals as goal

pub returns-in_err-test_rule_letters : goal.returns-in_err-test_rule_letters
returns-in_err-test_rule_letters c = rw (passed_up _ _ c.from_residual.ensures.1) (rule_letters-stop c.args.table.now c.args.s _ c.rule_letters.ensures.0 _ c.in_err-test_rule_letters.ensures)

pub returns : goal.returns
returns c = rule_letters-pass c.args.table.now c.args.s _ c.rule_letters.ensures.0 _ c.in_ok-test_rule_letters.ensures c.test_term.ensures
