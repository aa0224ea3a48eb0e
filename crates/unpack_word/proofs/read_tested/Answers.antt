-- `unpack_word::read_tested` meets its contract, test by test. Assumes nothing.
use Rattle.std.proofs.Common.{rules}
use Rattle.refusal.proofs.Passing.{passed_up}
use Rattle.unpack_word.proofs.Texts.{table_refused, shape_refused, parts-valid, letters_refused, all_passed}
use Rattle.unpack_word.proofs.read_tested.Goals as goal

pub returns-in_err-at_step : goal.returns-in_err-at_step
returns-in_err-at_step c =
    rw (passed_up _ _ c.from_residual.ensures.1) (table_refused _ _ _ c.check_table.ensures _ c.in_err-at_step.ensures)

pub returns-in_err-q : goal.returns-in_err-q
returns-in_err-q c =
    rw (passed_up _ _ c.from_residual-in_err-q.ensures.1)
    (shape_refused _ _ _ c.check_table.ensures _ c.in_ok-at_step.ensures _ c.read_log.ensures _ c.in_err-q.ensures)

pub test_log-requires : goal.test_log-requires
test_log-requires c = parts-valid _ _ _ c.check_table.ensures _ c.in_ok-at_step.ensures _ c.read_log.ensures _ c.in_ok-q.ensures

pub returns-in_err-test_log : goal.returns-in_err-test_log
returns-in_err-test_log c =
    rw (passed_up _ _ c.from_residual-in_err-test_log.ensures.1)
    (letters_refused _ _ _ c.check_table.ensures _ c.in_ok-at_step.ensures _ c.read_log.ensures _ c.in_ok-q.ensures _ c.in_err-test_log.ensures)

pub returns : goal.returns
returns c = all_passed _ _ _ c.check_table.ensures _ c.in_ok-at_step.ensures _ c.read_log.ensures _ c.in_ok-q.ensures _ c.in_ok-test_log.ensures
