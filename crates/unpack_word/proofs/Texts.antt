-- What is told for a table and a log's bytes. Assumes nothing.
use mathlib.Core.Path.{◌≡◌, refl, sym, ◌∙◌, ap, subst}
use mathlib.Core.List.{List}
use Prim.Native.Nat.{ℕ, ◌+◌, ◌-◌, ◌≤◌, ◌<◌}
use native.Mathlib.Omega.{arith}
use borrow.Author.Tests.{le-leb, lt-leb}
use lib.ListN.{length, get_or, take, drop, length-drop}
use lib.Seq.{take_all, length-take-le}
use Rattle.specification.specs.Results.{given}
use Rattle.specification.specs.Letters.{test_table}
use Rattle.specification.specs.Records.{test_terms}
use Rattle.specification.specs.Logs.{Checked, refused_at, accepted, read_log, steps_letters}
use Rattle.specification.specs.Logs as L
use Rattle.specification.specs.Printing.{alphabet}
use Rattle.specification.specs.LogTexts.{log_text}
use Rattle.specification.specs.Commands.{checked_text, tested_log, tested_text, unpacked_text, unpack_log, unpack_input}
use Rattle.theory.specs.Shape.Letters.{table_good_lem, good_short}
use Rattle.theory.proofs.Replay.Accepted.{passed, steps_letters-accepted}
use Rattle.std.specs.Prelude.{Ok, Err}
use Rattle.std.specs.Prelude as Std
use Rattle.refusal.specs.declared.Refusal.{Refusal}
use Rattle.refusal.specs.declared.Refusal.TheVariants.{BadTable}
use Rattle.refusal.specs.Numbers.{number_of}
use Rattle.refusal.specs.Tests.{test_of}
use Rattle.terms.specs.Abstraction.{form_of}
use Rattle.terms.specs.Valid.{FormValid}
use Rattle.logs.specs.declared.steps.RefusedAt.{RefusedAt}
use Rattle.logs.specs.declared.reading.LogReading.{LogReading}
use Rattle.logs.specs.Steps.{steps_of, found_of, at_step, StepsValid}
use Rattle.logs.specs.Reading.{parts_of, log_read_of, LogRead}
use Rattle.logs.proofs.AtSteps.{at_step_ok}
use Rattle.symbols.specs.Printable.{Printable}
use Rattle.printing.proofs.Named.{printable}
use Rattle.log_lines.specs.Printed.{StepsPrintable}
use Rattle.log_lines.proofs.Named.{steps-printable}
use Rattle.telling.specs.Told.{Told}
use Rattle.unpack_word.specs.Parts.{log_with, tests_of, unpacked_of, LogTested}

-- ════ a table and a log

-- one refusal
same_refusal : {A : Type 0} (e f : RefusedAt) → ◌≡◌ {A = Std.Result A RefusedAt} (Err e) (Err f) → e ≡ f
same_refusal e f h = cc h

module _ (table s : List ℕ) where
  -- a refusal and its step
  refused_so : (e : RefusedAt) → unpack_log table s ≡ checked_text 0 0 (refused_at (number_of e.why) e.step) → LogTested table s (Err e)
  unfolding unpacked_of
  refused_so e h = record { is = h; good = tt; tested = tt; first = tt; steps = tt; last = tt }

  -- the table is none
  pub table_refused : (r : Std.Result (Unit {0}) Refusal) → test_of r ≡ test_table table → (e : RefusedAt) → Err e ≡ at_step r 0 → LogTested table s (Err e)
  unfolding unpack_log unpacked_text
  table_refused (Ok u) tb e h = cc h
  table_refused (Err w) tb e h =
      subst (λ (f : RefusedAt). LogTested table s (Err f)) (sym (same_refusal e (record { why = w; step = 0 }) h)) (refused_so (record { why = w; step = 0 }) (rw (← tb) refl))

  module _ (r : Std.Result (Unit {0}) Refusal) (tb : test_of r ≡ test_table table) (u : Unit {0}) (h : Ok u ≡ at_step r 0) where
    table_passed : given tt ≡ test_table table
    table_passed = ap test_of (sym (at_step_ok r 0 u h)) ∙ tb

    -- the bytes are no log
    pub shape_refused : (l : Std.Result LogReading Refusal) → LogRead (read_log s) l → (e : RefusedAt) → Err e ≡ at_step l 0 → LogTested table s (Err e)
    unfolding unpack_log unpacked_text log_read_of
    shape_refused (Ok q) w e k = cc k
    shape_refused (Err x) w e k =
        subst (λ (f : RefusedAt). LogTested table s (Err f)) (sym (same_refusal e (record { why = x; step = 0 }) k)) (refused_so (record { why = x; step = 0 }) (rw (← table_passed, ← w.is) refl))

    module _ (l : Std.Result LogReading Refusal) (w : LogRead (read_log s) l) (q : LogReading) (k : Ok q ≡ at_step l 0) where
      read_so : LogRead (read_log s) (Ok q)
      read_so = subst (LogRead (read_log s)) (at_step_ok l 0 q k) w

      -- so its parts are in shape
      pub parts-valid : FormValid q.first × StepsValid q.steps × FormValid q.last
      parts-valid = (read_so.first, read_so.steps, read_so.last)

      by_tests : (d : Std.Result (Unit {0}) RefusedAt) → tested_log table (log_with q.first q.steps q.last) ≡ tests_of d → unpack_log table s ≡ tested_text table (parts_of q) (tests_of d)
      unfolding unpack_log unpacked_text tested_log log_read_of parts_of
      by_tests d t = rw (← table_passed, ← read_so.is) (ap (tested_text table (parts_of q)) t)

      -- a letter is refused
      pub letters_refused : (e : RefusedAt) → tested_log table (log_with q.first q.steps q.last) ≡ tests_of (Err e) → LogTested table s (Err e)
      unfolding tested_text found_of
      letters_refused e t = refused_so e (by_tests (Err e) t)

      -- all are passed
      pub all_passed : (v : Unit {0}) → tested_log table (log_with q.first q.steps q.last) ≡ tests_of (Ok v) → LogTested table s (Ok q)
      unfolding tested_text found_of unpacked_of parts_of
      all_passed v t = record {
        is = by_tests (Ok v) t;
        good = table_good_lem table (sym table_passed);
        tested = t;
        first = read_so.first;
        steps = read_so.steps;
        last = read_so.last;
      }

-- what is told of it
module _ (table s : List ℕ) (out : List ℕ) (end : ℕ) where
  -- the refusal
  pub refused-told : (e : RefusedAt) → LogTested table s (Err e) → (n : ℕ) → n ≡ number_of e.why → Told out end (checked_text 0 0 (refused_at n e.step)) → Told out end (unpack_log table s)
  unfolding unpacked_of
  refused-told e h n q t =
      subst (Told out end) (sym h.is) (subst (λ (m : ℕ). Told out end (checked_text 0 0 (refused_at m e.step))) q t)

  -- the text
  pub log-told : (q : LogReading) → LogTested table s (Ok q) → Told out end (log_text (take (length table) alphabet) table (form_of q.first) (steps_of q.steps) (form_of q.last))
      → Told out end (unpack_log table s)
  unfolding unpacked_of
  log-told q h t = subst (Told out end) (sym h.is) t

-- what telling asks of a log whose tests pass
module _ (table s : List ℕ) (q : LogReading) (h : LogTested table s (Ok q)) where
  -- there is a name for each letter
  pub names-many : length table ≤ 24
  names-many = good_short table h.good

  pub names-long : length (take (length table) alphabet) ≡ length table
  names-long = length-take-le (length table) alphabet names-many

  pub log_tellable : Printable (take (length table) alphabet) q.first × StepsPrintable (take (length table) alphabet) q.steps × Printable (take (length table) alphabet) q.last
  unfolding tested_log
  log_tellable =
      let first = passed 0 (test_terms table (form_of q.first).terms) (λ _. steps_letters table 1 (steps_of q.steps) last) 0 0 0 h.tested in
      let steps = steps_letters-accepted table 1 (steps_of q.steps) last 0 0 0 first.2 in
      let ends = passed (length (steps_of q.steps) + 1) (test_terms table (form_of q.last).terms) (λ _. accepted 0 0 0) 0 0 0 steps.1 in
      let many : length table ≤ length (take (length table) alphabet) = omega (arith, names-long) in (
        printable table (take (length table) alphabet) many q.first h.first first.1,
        steps-printable table (take (length table) alphabet) many q.steps h.steps steps.0,
        printable table (take (length table) alphabet) many q.last h.last ends.1,
      )
    where
      last : Checked
      last = L.at_step (length (steps_of q.steps) + 1) (test_terms table (form_of q.last).terms) λ _. accepted 0 0 0

-- ════ all that was read

module _ (s out : List ℕ) (end : ℕ) where
  -- the length byte is missing
  pub nothing-told : length s ≡ 0 → (n : ℕ) → n ≡ number_of BadTable → Told out end (checked_text 0 0 (refused_at n 0)) → Told out end (unpack_input s)
  unfolding unpack_input
  nothing-told e n q t = rw (lt-leb 1 (length s) (omega arith)) (subst (λ (m : ℕ). Told out end (checked_text 0 0 (refused_at m 0))) q t)

  -- the table is cut
  pub cut-told : (length s ≡ 0 → ⊥) → length s < get_or s 0 0 + 1 → (k : ℕ) → k ≡ number_of BadTable → Told out end (checked_text 0 0 (refused_at k 0)) → Told out end (unpack_input s)
  unfolding unpack_input
  cut-told n l k q t =
      rw (le-leb 1 (length s) (omega (arith, n)), lt-leb (get_or s 0 0 + 1) (length s) l) (subst (λ (m : ℕ). Told out end (checked_text 0 0 (refused_at m 0))) q t)

  -- the table and the log as parts of it
  pub parts-told : get_or s 0 0 + 1 ≤ length s → Told out end (unpack_log (take (get_or s 0 0 + 1 - 1) (drop 1 s)) (take (length s - (get_or s 0 0 + 1)) (drop (get_or s 0 0 + 1) s)))
      → Told out end (unpack_input s)
  unfolding unpack_input
  parts-told l t = rw (le-leb 1 (length s) (omega arith), le-leb (get_or s 0 0 + 1) (length s) l) (subst (Told out end) (λ i. unpack_log (table i) (rest i)) t)
    where
      table : take (get_or s 0 0 + 1 - 1) (drop 1 s) ≡ take (get_or s 0 0) (drop 1 s)
      table = let e : get_or s 0 0 + 1 - 1 ≡ get_or s 0 0 = omega arith in ap (λ (k : ℕ). take k (drop 1 s)) e

      rest : take (length s - (get_or s 0 0 + 1)) (drop (get_or s 0 0 + 1) s) ≡ drop (get_or s 0 0 + 1) s
      rest = let n : length (drop (get_or s 0 0 + 1) s) ≤ length s - (get_or s 0 0 + 1) = omega (arith, length-drop (get_or s 0 0 + 1) s) in take_all _ (drop (get_or s 0 0 + 1) s) n
