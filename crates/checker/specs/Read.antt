-- What the call answers of a log that was read. Assumes nothing.
use Rattle.std.specs.Prelude.{List, ℕ, ◌+◌, length}
use Rattle.specification.specs.Records.{test_terms}
use Rattle.specification.specs.Logs.{Log, steps_letters, replay}
use Rattle.specification.specs.Logs as L

-- its letters in byte order, then the replay
abbrev pub log_checked : (table : List ℕ) → Log → L.Checked
log_checked table log =
    L.at_step 0 (test_terms table log.first.terms) λ _.
    steps_letters table 1 log.steps
    (L.at_step (length log.steps + 1) (test_terms table log.last.terms) λ _.
    replay log 1 log.first log.steps)
