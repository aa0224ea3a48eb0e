-- `log_words::check_text` meets its contract. Assumes nothing.
use Rattle.log_words.proofs.Answers.{log_within-bytes, log-column, check_refused, check_given}
use lib.Seq.{length-take-le}
use native.Mathlib.Omega.{arith}
use mathlib.Core.Path.{sym, ◌∙◌}
use Rattle.log_words.proofs.check_text.Goals as goal

pub tell_line-requires : goal.tell_line-requires
tell_line-requires c =
    (c.in-Err.ensures.inside, log-column _ _ _ _ c.in-Err.ensures)

pub returns-in-Err : goal.returns-in-Err
returns-in-Err c =
    check_refused _ _ _ _ c.in-Err.ensures _ c.number.ensures _ _ c.tell_line.ensures

pub count_terms-first-requires : goal.count_terms-first-requires
count_terms-first-requires c = c.in-Ok.ensures.first

pub count_terms-last-requires : goal.count_terms-last-requires
count_terms-last-requires c = c.in-Ok.ensures.last

pub write_log-m-requires : goal.write_log-m-requires
write_log-m-requires c =
    let r = c.in-Ok.ensures in (r.first, r.steps, r.last, omega (arith, r.steps.few, r.last.few))

pub slice_bounds-table-end : goal.slice_bounds-table-end
slice_bounds-table-end c =
    omega (arith, c.in-Ok.ensures.few, c.read_log_text.auto.table)

pub slice_bounds-check-end : goal.slice_bounds-check-end
slice_bounds-check-end c =
    sym (length-take-le _ _ (omega (arith, c.in-Ok.ensures.few, c.read_log_text.auto.table)))

pub slice_bounds-log-end : goal.slice_bounds-log-end
slice_bounds-log-end c = log_within-bytes _ _ _ _ _ _ c.write_log-m.ensures

pub slice_bounds-check-end-2 : goal.slice_bounds-check-end-2
slice_bounds-check-end-2 c = sym (length-take-le _ _ (log_within-bytes _ _ _ _ _ _ c.write_log-m.ensures))

pub returns : goal.returns
returns c =
    check_given _ _ _ _ c.in-Ok.ensures _ _ _ c.write_log-m.ensures _ _ _ _ _ c.count_terms-first.ensures
    c.count_terms-last.ensures (c.by_number.ensures ∙ c.check-c.ensures) c.tell_checked.ensures
