-- `derivation_word::answering::open_line` meets its contract. Assumes nothing.
use native.Mathlib.Omega.{arith}
use Rattle.derivation_word.proofs.Answers.{count_small}
use Rattle.derivation_word.proofs.Turns.{open_full, open_step}
use Rattle.derivation_word.proofs.answering.open_line.Goals as goal

pub overflow_add-count : goal.overflow_add-count
overflow_add-count c =
    omega (arith, count_small c.args.d c.requires.0 c.requires.1)

pub returns-then-is_one_too_many : goal.returns-then-is_one_too_many
returns-then-is_one_too_many c =
    open_full c.args.d c.args.k c.args.line.now _ _ _ c.requires.0 c.requires.1 _ c.is_one_too_many.ensures c.if-is_one_too_many.true _ c.number.ensures _
    c.tell_step_refusal-end.ensures

pub returns : goal.returns
returns c =
    open_step c.args.d c.args.k c.args.line.now _ _ _ c.requires.0 c.requires.1 _ c.is_one_too_many.ensures c.if-is_one_too_many.false _
    c.step_line.ensures
