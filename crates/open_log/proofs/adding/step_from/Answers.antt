-- `open_log::adding::step_from` meets its contract. Assumes nothing.
use Rattle.refusal.proofs.Passing.{passed_up}
use Rattle.open_log.proofs.Additions.{no_step_lem, left_over_lem, step_decides}
use Rattle.open_log.proofs.adding.step_from.Goals as goal

pub returns-in_err-step : goal.returns-in_err-step
returns-in_err-step c = rw (passed_up _ _ c.from_residual.ensures.1) (no_step_lem _ _ _ _ c.in_err-step.ensures)

pub returns-then-next-s : goal.returns-then-next-s
returns-then-next-s c = left_over_lem _ _ _ _ _ c.in_ok-step.ensures c.if-next-s.true

pub step_on-requires : goal.step_on-requires
step_on-requires c = (c.requires, c.in_ok-step.ensures.valid)

pub returns : goal.returns
returns c = step_decides _ _ _ _ _ c.in_ok-step.ensures c.if-next-s.false _ c.step_on.ensures
