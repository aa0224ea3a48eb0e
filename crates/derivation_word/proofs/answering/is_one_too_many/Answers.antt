-- `derivation_word::answering::is_one_too_many` meets its contract. Assumes nothing.
use Rattle.derivation_word.proofs.Turns.{no-and, some_and}
use Rattle.derivation_word.proofs.answering.is_one_too_many.Goals as goal

pub returns-then-not-is_step_line : goal.returns-then-not-is_step_line
returns-then-not-is_step_line c = no-and _ _ _ c.is_step_line.ensures c.if-not-is_step_line.true

pub returns : goal.returns
returns c = some_and _ _ _ c.is_step_line.ensures c.if-not-is_step_line.false
