-- The checker's call: the table, the shape of the whole log, the letters in byte order, then the replay. Assumes nothing.
use mathlib.Core.Path.{◌≡◌, refl, ap, sym, ◌∙◌}
use mathlib.Core.Bool.{true, false}
use mathlib.Core.List.{List}
use Prim.Native.Nat.{ℕ, ◌+◌}
use borrow.Author.Tests.{eq-eqb, ne_eqb}
use lib.ListN.{length}
use Rattle.specification.specs.Results.{Result, Test}
use Rattle.specification.specs.Letters.{test_table}
use Rattle.specification.specs.Records.{test_terms}
use Rattle.specification.specs.Logs.{Log, refused_at, accepted, read_log, steps_letters, replay, check_call}
use Rattle.specification.specs.Logs as L
use Rattle.terms.specs.declared.types.Form.{Form}
use Rattle.terms.specs.Abstraction.{form_of, terms_of}
use Rattle.logs.specs.declared.steps.Steps.{Steps}
use Rattle.std.specs.Prelude.{Ok, Err}
use Rattle.std.specs.Prelude as Std
use Rattle.refusal.specs.declared.Refusal.{Refusal}
use Rattle.refusal.specs.Numbers.{number_of}
use Rattle.refusal.specs.Tests.{answer_of, test_of}
use Rattle.logs.specs.declared.steps.RefusedAt.{RefusedAt}
use Rattle.logs.specs.declared.reading.LogReading.{LogReading}
use Rattle.logs.specs.Reading.{parts_of, log_read_of}
use Rattle.logs.specs.Steps.{at_step}
use Rattle.logs.proofs.AtSteps.{ends_at, goes_on_at, at_step_ok}
use Rattle.logs.specs.Steps.{steps_of, found_of, StepsTested}
use Rattle.replaying.specs.Replaying.{ReplayedAs}
use Rattle.checker.specs.Read.{log_checked}

-- ════ a log that was read

module _ (table : List ℕ) (q : LogReading) (first : Std.Result (Unit {0}) Refusal) (tf : test_of first ≡ test_terms table (terms_of q.first)) where
  -- what follows the letters of the first form
  abbrev behind_steps : L.Checked
  behind_steps = L.at_step (length (steps_of q.steps) + 1) (test_terms table (terms_of q.last)) λ _. replay (parts_of q) 1 (form_of q.first) (steps_of q.steps)

  abbrev behind_first : L.Checked
  behind_first = steps_letters table 1 (steps_of q.steps) behind_steps

  by_first : log_checked table (parts_of q) ≡ L.at_step 0 (test_of first) (λ _. behind_first)
  unfolding parts_of form_of terms_of
  by_first = ap (λ (t : Test). L.at_step 0 t (λ _. behind_first)) (sym tf)

  pub first-letters-read : (e : RefusedAt) → Err e ≡ at_step first 0 → log_checked table (parts_of q) ≡ refused_at (number_of e.why) e.step
  first-letters-read e h = by_first ∙ ends_at (λ _. tt) 0 _ first e h

  module _ (zf : Unit {0}) (hf : Ok zf ≡ at_step first 0) where
    behind-first : log_checked table (parts_of q) ≡ behind_first
    behind-first = by_first ∙ goes_on_at (λ _. tt) 0 _ first zf hf

    pub step-letters-read : (e : RefusedAt) → StepsTested table q.steps (Err e) → log_checked table (parts_of q) ≡ refused_at (number_of e.why) e.step
    unfolding found_of
    step-letters-read e td = behind-first ∙ td.is behind_steps

    module _ (zs : Unit {0}) (td : StepsTested table q.steps (Ok zs)) (long : length (steps_of q.steps) ≡ q.steps.count)
        (last : Std.Result (Unit {0}) Refusal) (tl : test_of last ≡ test_terms table (terms_of q.last)) where
      by_last : log_checked table (parts_of q) ≡ L.at_step (q.steps.count + 1) (test_of last) (λ _. replay (parts_of q) 1 (form_of q.first) (steps_of q.steps))
      unfolding found_of
      by_last = behind-first ∙ td.is behind_steps ∙ (λ i. L.at_step (long i + 1) (sym tl i) (λ _. replay (parts_of q) 1 (form_of q.first) (steps_of q.steps)))

      pub last-letters-read : (e : RefusedAt) → Err e ≡ at_step last (q.steps.count + 1) → log_checked table (parts_of q) ≡ refused_at (number_of e.why) e.step
      last-letters-read e h = by_last ∙ ends_at (λ _. tt) (q.steps.count + 1) _ last e h

      module _ (zl : Unit {0}) (hl : Ok zl ≡ at_step last (q.steps.count + 1)) where
        by-replay : (p : Std.Result (Unit {0}) RefusedAt) → ReplayedAs q.first q.steps q.last p
            → log_checked table (parts_of q) ≡ found_of p (λ _. accepted q.first_end q.last_start (length (steps_of q.steps)))
        unfolding parts_of
        by-replay p w = by_last ∙ goes_on_at (λ _. tt) (q.steps.count + 1) _ last zl hl ∙ w.is (parts_of q) refl

        -- a step is refused, or another form reached
        pub step-taken-read : (e : RefusedAt) → ReplayedAs q.first q.steps q.last (Err e) → log_checked table (parts_of q) ≡ refused_at (number_of e.why) e.step
        unfolding found_of
        step-taken-read e w = by-replay (Err e) w

        -- accepted
        pub all-accepted-read : (zp : Unit {0}) → ReplayedAs q.first q.steps q.last (Ok zp) → log_checked table (parts_of q) ≡ accepted q.first_end q.last_start q.steps.count
        unfolding found_of
        all-accepted-read zp w = by-replay (Ok zp) w ∙ ap (accepted q.first_end q.last_start) long

-- ════ the call

module _ (table s : List ℕ) (bad : Std.Result (Unit {0}) Refusal) (tb : test_of bad ≡ test_table table) where
  by_table : check_call table s ≡ L.at_step 0 (test_of bad) (λ _. L.at_step 0 (read_log s) (log_checked table))
  unfolding check_call
  by_table = ap (λ (t : Test). L.at_step 0 t (λ _. L.at_step 0 (read_log s) (log_checked table))) (sym tb)

  pub table-bad : (e : RefusedAt) → Err e ≡ at_step bad 0 → check_call table s ≡ refused_at (number_of e.why) e.step
  table-bad e h = by_table ∙ ends_at (λ _. tt) 0 _ bad e h

  module _ (z : Unit {0}) (hz : Ok z ≡ at_step bad 0) (read : Std.Result LogReading Refusal) (tr : log_read_of read ≡ read_log s) where
    by_shape : check_call table s ≡ L.at_step 0 (answer_of parts_of read) (log_checked table)
    unfolding log_read_of
    by_shape = by_table ∙ goes_on_at (λ _. tt) 0 _ bad z hz ∙ ap (λ (x : Result Log). L.at_step 0 x (log_checked table)) (sym tr)

    pub shape-bad : (e : RefusedAt) → Err e ≡ at_step read 0 → check_call table s ≡ refused_at (number_of e.why) e.step
    shape-bad e h = by_shape ∙ ends_at parts_of 0 (log_checked table) read e h

    pub shape-refused : (why : Refusal) → read ≡ Err why → check_call table s ≡ refused_at (number_of why) 0
    shape-refused why h = by_shape ∙ ap (λ (r : Std.Result LogReading Refusal). L.at_step 0 (answer_of parts_of r) (log_checked table)) h

    pub shape-good : (q : LogReading) → read ≡ Ok q → check_call table s ≡ log_checked table (parts_of q)
    shape-good q h = by_shape ∙ ap (λ (r : Std.Result LogReading Refusal). L.at_step 0 (answer_of parts_of r) (log_checked table)) h

    -- what is said of a log that was read is said of the call
    module _ (q : LogReading) (hq : Ok q ≡ at_step read 0) (first : Std.Result (Unit {0}) Refusal) (tf : test_of first ≡ test_terms table (terms_of q.first)) where
      by_log : check_call table s ≡ log_checked table (parts_of q)
      by_log = shape-good q (at_step_ok read 0 q hq)

      pub first_letters : (e : RefusedAt) → Err e ≡ at_step first 0 → check_call table s ≡ refused_at (number_of e.why) e.step
      first_letters e h = by_log ∙ first-letters-read table q first tf e h

      module _ (zf : Unit {0}) (hf : Ok zf ≡ at_step first 0) where
        pub step-letters : (e : RefusedAt) → StepsTested table q.steps (Err e) → check_call table s ≡ refused_at (number_of e.why) e.step
        step-letters e td = by_log ∙ step-letters-read table q first tf zf hf e td

        module _ (zs : Unit {0}) (td : StepsTested table q.steps (Ok zs)) (long : length (steps_of q.steps) ≡ q.steps.count)
            (last : Std.Result (Unit {0}) Refusal) (tl : test_of last ≡ test_terms table (terms_of q.last)) where
          pub last_letters_lem : (e : RefusedAt) → Err e ≡ at_step last (q.steps.count + 1) → check_call table s ≡ refused_at (number_of e.why) e.step
          last_letters_lem e h = by_log ∙ last-letters-read table q first tf zf hf zs td long last tl e h

          module _ (zl : Unit {0}) (hl : Ok zl ≡ at_step last (q.steps.count + 1)) where
            -- a step is refused, or another form reached
            pub step_taken : (e : RefusedAt) → ReplayedAs q.first q.steps q.last (Err e) → check_call table s ≡ refused_at (number_of e.why) e.step
            step_taken e w = by_log ∙ step-taken-read table q first tf zf hf zs td long last tl zl hl e w

            -- accepted
            pub all_accepted : (zp : Unit {0}) → ReplayedAs q.first q.steps q.last (Ok zp) → check_call table s ≡ accepted q.first_end q.last_start q.steps.count
            all_accepted zp w = by_log ∙ all-accepted-read table q first tf zf hf zs td long last tl zl hl zp w
