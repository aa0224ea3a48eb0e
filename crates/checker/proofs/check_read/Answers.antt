-- `checker::check_read` meets its contract: each test refuses as the replay does where it stands. Assumes nothing.
use Rattle.std.proofs.Common.{rules}
use mathlib.Core.Path.{sym}
use Rattle.refusal.proofs.Passing.{passed_up}
use Rattle.logs.specs.Steps.{found_of}
use Rattle.logs.proofs.StepRecords.{steps-long}
use Rattle.checker.proofs.CheckedLogs.{first-letters-read, step-letters-read, last-letters-read, step-taken-read, all-accepted-read}
use Rattle.checker.proofs.check_read.Goals as goal

pub returns-in_err-at_step : goal.returns-in_err-at_step
unfolding found_of
returns-in_err-at_step c =
    rw (passed_up _ _ c.from_residual.ensures.1)
    (sym (first-letters-read c.args.table.now c.args.q.now _ c.test_terms.ensures _ c.in_err-at_step.ensures))

pub returns-in_err-test_steps : goal.returns-in_err-test_steps
unfolding found_of
returns-in_err-test_steps c =
    rw (passed_up _ _ c.from_residual-in_err-test_steps.ensures.1)
    (sym (step-letters-read c.args.table.now c.args.q.now _ c.test_terms.ensures _ c.in_ok-at_step.ensures _ c.in_err-test_steps.ensures))

pub returns-in_err-at_step-2 : goal.returns-in_err-at_step-2
unfolding found_of
returns-in_err-at_step-2 c =
    rw (passed_up _ _ c.from_residual-in_err-at_step-2.ensures.1)
    (sym (last-letters-read c.args.table.now c.args.q.now _ c.test_terms.ensures _ c.in_ok-at_step.ensures _ c.in_ok-test_steps.ensures
    (steps-long _ c.requires.1) _ c.test_terms-2.ensures _ c.in_err-at_step-2.ensures))

pub returns-in_err-replay : goal.returns-in_err-replay
unfolding found_of
returns-in_err-replay c =
    rw (passed_up _ _ c.from_residual-in_err-replay.ensures.1)
    (sym (step-taken-read c.args.table.now c.args.q.now _ c.test_terms.ensures _ c.in_ok-at_step.ensures _ c.in_ok-test_steps.ensures
    (steps-long _ c.requires.1) _ c.test_terms-2.ensures _ c.in_ok-at_step-2.ensures _ c.in_err-replay.ensures))

pub returns : goal.returns
unfolding found_of
returns c =
    sym (all-accepted-read c.args.table.now c.args.q.now _ c.test_terms.ensures _ c.in_ok-at_step.ensures _ c.in_ok-test_steps.ensures
    (steps-long _ c.requires.1) _ c.test_terms-2.ensures _ c.in_ok-at_step-2.ensures _ c.in_ok-replay.ensures)
