-- A log that is unpacked and packed again has its bytes. Assumes nothing.
use Rattle.std.specs.Prelude.{◌≡◌, refl, List, ◌∷◌, ◌++◌, ℕ, ◌+◌, ◌≤◌, length}
use Rattle.std.proofs.Math.Path.{sym}
use Rattle.std.proofs.Common.{◌∙◌, ap, arith}
use Rattle.std.proofs.Math.Dec.{T}
use Rattle.specification.specs.Results.{given}
use Rattle.specification.specs.Letters.{good_table, test_table}
use Rattle.specification.specs.Records.{test_terms}
use Rattle.specification.specs.Lines.{lined}
use Rattle.specification.specs.Logs.{Log, Checked, accepted, at_step, read_log, steps_letters}
use Rattle.specification.specs.LogTexts.{log_bytes_of}
use Rattle.specification.specs.Commands.{pack_input, tested_log, tested_text, unpacked_text, unpack_log}
use Rattle.theory.specs.Shape.Letters.{table_good_lem, terms_known, good_short}
use Rattle.theory.specs.Records.Positions.{Bytes}
use Rattle.theory.proofs.Records.Logs.{LogRead, log_one_record}
use Rattle.theory.proofs.Replay.Accepted.{passed, steps_letters-accepted}
use Rattle.theory.specs.Text.Printing.{plain_names, plain_good}
use Rattle.theory.proofs.Text.LogRoundTrip.{LogWritable, steps_tested_lem, log-read_back}

module _ (table s : List ℕ) (log : Log) (bs : Bytes s) (good : test_table table ≡ given tt) (read : read_log s ≡ given log) (a b n : ℕ)
    (passes : tested_log table log ≡ accepted a b n) where
  -- its parts are in shape and its letters are in the table
  pub unpacked-writable : LogWritable table log.first log.steps log.last
  unfolding tested_log
  unpacked-writable =
      let f = passed 0 (test_terms table log.first.terms) (λ _. steps_letters table 1 log.steps last) a b n passes in
      let m = steps_letters-accepted table 1 log.steps last a b n f.2 in
      let g = passed (length log.steps + 1) (test_terms table log.last.terms) (λ _. accepted 0 0 0) a b n m.1 in
      let o : LogRead s log = log_one_record s log bs read in
      record {
        in_shape = o.in_shape;
        first_known = terms_known table log.first.terms f.1;
        steps_tested = steps_tested_lem table log.steps m.0;
        last_known = terms_known table log.last.terms g.1;
      }
    where
      last : Checked
      last = at_step (length log.steps + 1) (test_terms table log.last.terms) λ _. accepted 0 0 0

  -- "so that a partner's log can be checked and read": what `pack` gives for the text is what was unpacked
  pub unpacked-packed : pack_input (unpack_log table s) ≡ lined (length table ∷ table ++ s)
  unfolding pack_input unpack_log unpacked_text tested_text log_bytes_of
  unpacked-packed =
      let t : T (good_table table) = table_good_lem table good in
      let o : LogRead s log = log_one_record s log bs read in
      rw (good, read, passes, log-read_back (plain_names table) table t (plain_good table (good_short table t)) log.first log.steps log.last unpacked-writable, sym o.is_written)
