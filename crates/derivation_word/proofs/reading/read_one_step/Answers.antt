-- `derivation_word::reading::read_one_step` meets its contract. Assumes nothing.
use Rattle.derivation_word.proofs.Answers.{step-none, step-some}
use Rattle.derivation_word.proofs.reading.read_one_step.Goals as goal

pub returns-then-not-is_step_line : goal.returns-then-not-is_step_line
returns-then-not-is_step_line c =
    step-none c.args.names.now c.args.table.now c.args.line.now _ _ c.is_step_line.ensures c.if-not-is_step_line.true c.past_blanks-at.ensures

pub returns : goal.returns
returns c =
    step-some c.args.names.now c.args.table.now c.args.line.now _ _ c.is_step_line.ensures c.if-not-is_step_line.false
    c.read_step_line.ensures
