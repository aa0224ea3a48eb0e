-- `checker::check` meets its contract: the table, then the log's shape, then what was read. Assumes nothing.
use Rattle.std.proofs.Common.{rules}
use mathlib.Core.Path.{sym, ◌∙◌}
use Rattle.std.proofs.lemmas.Result.{IfOk-at_ok}
use Rattle.terms.specs.Valid.{FormValid}
use Rattle.refusal.proofs.Passing.{passed_up}
use Rattle.logs.specs.Steps.{found_of, StepsValid}
use Rattle.checker.proofs.CheckedLogs.{table-bad, shape-refused, shape-good}
use Rattle.checker.proofs.check.Goals as goal

pub returns-in_err-at_step : goal.returns-in_err-at_step
unfolding found_of
returns-in_err-at_step c = rw (passed_up _ _ c.from_residual.ensures.1) (sym (table-bad c.args.table.now c.args.log.now _ c.check_table.ensures _ c.in_err-at_step.ensures))

pub check_read-requires : goal.check_read-requires
check_read-requires c = let r = c.read_log.ensures in (
  IfOk-at_ok (λ q. FormValid q.first) c.in-Ok.is r.first,
  IfOk-at_ok (λ q. StepsValid q.steps) c.in-Ok.is r.steps,
  IfOk-at_ok (λ q. FormValid q.last) c.in-Ok.is r.last,
)

pub returns-in-Ok : goal.returns-in-Ok
returns-in-Ok c = c.check_read.ensures ∙ sym (shape-good c.args.table.now c.args.log.now _ c.check_table.ensures _ c.in_ok-at_step.ensures _ c.read_log.ensures.is _ c.in-Ok.is)

pub returns-in-Err : goal.returns-in-Err
unfolding found_of
returns-in-Err c = sym (shape-refused c.args.table.now c.args.log.now _ c.check_table.ensures _ c.in_ok-at_step.ensures _ c.read_log.ensures.is _ c.in-Err.is)
