-- `log_texts::steps::read_step_line` meets its contract, part by part. Assumes nothing.
use Rattle.std.proofs.Common.{rules}
use Rattle.refusal.proofs.Passing.{passed_up}
use native.Mathlib.Omega.{arith}
use Rattle.log_texts.proofs.StepLines.{step_unruled, step_unlettered, step-unmarked, step_unmultiplied, step_read}
use Rattle.log_texts.proofs.steps.read_step_line.Goals as goal

pub returns-in_err-a : goal.returns-in_err-a
returns-in_err-a c = rw (passed_up _ _ c.from_residual.ensures.1) (step_unruled _ _ _ _ c.in_err-a.ensures)

pub read_letters-requires : goal.read_letters-requires
read_letters-requires c = (c.rule_letters-n.ensures.1, omega (arith, c.requires.fit, c.requires.few))

pub returns-in_err-l : goal.returns-in_err-l
returns-in_err-l c =
    rw (passed_up _ _ c.from_residual-in_err-l.ensures.1)
    (step_unlettered _ _ _ _ c.in_ok-a.ensures _ c.rule_letters-n.ensures.0 _ c.in_err-l.ensures)

pub returns-in_err-at : goal.returns-in_err-at
returns-in_err-at c =
    rw (passed_up _ _ c.from_residual-in_err-at.ensures.1)
    (step-unmarked _ _ _ _ c.in_ok-a.ensures _ c.rule_letters-n.ensures.0 _ c.in_ok-l.ensures _ c.in_err-at.ensures)

pub read_multiplier-requires : goal.read_multiplier-requires
read_multiplier-requires c = (c.requires, c.in_ok-at.ensures.within)

pub returns-in_err-m : goal.returns-in_err-m
returns-in_err-m c =
    rw (passed_up _ _ c.from_residual-in_err-m.ensures.1)
    (step_unmultiplied _ _ _ _ c.in_ok-a.ensures _ c.rule_letters-n.ensures.0 _ c.in_ok-l.ensures _ c.in_ok-at.ensures _ c.in_err-m.ensures)

pub returns : goal.returns
returns c =
    step_read _ _ _ _ c.in_ok-a.ensures _ c.rule_letters-n.ensures.0 _ c.in_ok-l.ensures _ c.in_ok-at.ensures _ c.in_ok-m.ensures
