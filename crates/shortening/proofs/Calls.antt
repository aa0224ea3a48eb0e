-- What shortening answers, test by test. Assumes nothing.
use mathlib.Core.Path.{◌≡◌, refl, sym, subst, ◌∙◌}
use mathlib.Core.List.{List}
use Prim.Native.Nat.{ℕ, ◌+◌, ◌<◌, ◌≤◌}
use native.Mathlib.Omega.{arith}
use borrow.Author.Tests.{le-leb, lt-leb}
use lib.ListN.{length}
use Rattle.specification.specs.Results.{Result, refused, given}
use Rattle.specification.specs.Letters.{test_table}
use Rattle.specification.specs.Terms as S
use Rattle.specification.specs.Records.{take_form}
use Rattle.specification.specs.Shortening.{shortening_bytes, shortened, unshortened, shorten_tested, ShortenedBy, Shortened}
use Rattle.specification.specs.Shortening as H
use Rattle.theory.specs.Shape.Letters.{table_good_lem}
use Rattle.theory.specs.Records.Positions.{Bytes}
use Rattle.theory.proofs.Records.Lengths.{saving-log_short}
use Rattle.theory.specs.Records.Taken.{taken_so}
use Rattle.theory.proofs.Replay.Accepted.{Derives}
use Rattle.std.specs.Prelude.{Ok, Err}
use Rattle.refusal.specs.declared.Refusal.{Refusal}
use Rattle.refusal.specs.declared.Refusal.TheVariants.{NoRoom}
use Rattle.refusal.specs.Numbers.{number_of}
use Rattle.refusal.specs.Tests.{test_of}
use Rattle.terms.specs.declared.types.Form.{Form}
use Rattle.terms.specs.Abstraction.{form_of}
use Rattle.terms.proofs.Forms.{form-long}
use Rattle.terms.specs.Valid.{Gives}
use Rattle.terms.proofs.Outcomes.{worked_given, worked_refused}
use Rattle.logs.specs.Steps.{steps_of}
use Rattle.logs.specs.Writing.{LogWritten}
use Rattle.logs.proofs.StepRecords as L
use Rattle.shortening.specs.declared.rounds.Derivation.{Derivation}
use Rattle.shortening.specs.Derived.{Derived}
use Rattle.shortening.proofs.Shortened.{shortened_to}

module _ (table form out : List ℕ) where
  -- what holds by the tests holds of the call
  by_tests : (r : Result S.Form) (answer : H.Shortening) (out' : List ℕ) → shorten_tested table form out ≡ r → ShortenedBy r table form out answer out' → Shortened table form out answer out'
  unfolding Shortened
  by_tests r answer out' e w = subst (λ (r : Result S.Form). ShortenedBy r table form out answer out') (sym e) w

  refused_so : (e : Refusal) → shorten_tested table form out ≡ refused (number_of e) → Shortened table form out (unshortened (number_of e)) out
  unfolding ShortenedBy
  refused_so e h = by_tests (refused (number_of e)) (unshortened (number_of e)) out h (refl, refl)

  -- 1
  pub table_refused : (e : Refusal) → test_of (Err e) ≡ test_table table → Shortened table form out (unshortened (number_of e)) out
  unfolding shorten_tested
  table_refused e h = refused_so e (rw (← h))

  module _ (u : Unit {0}) (et : test_of (Ok u) ≡ test_table table) where
    -- 2
    pub out_refused : length out < shortening_bytes → Shortened table form out (unshortened 2) out
    unfolding shorten_tested
    out_refused h = refused_so NoRoom (rw (← et, lt-leb shortening_bytes (length out) h))

    module _ (enough : shortening_bytes ≤ length out) where
      tests-are : shorten_tested table form out ≡ take_form table form
      unfolding shorten_tested
      tests-are = rw (← et, le-leb shortening_bytes (length out) enough)

      -- 11, 5, 6
      pub form_refused : (e : Refusal) → Gives (take_form table form) (Err e) → Shortened table form out (unshortened (number_of e)) out
      form_refused e wa = refused_so e (tests-are ∙ worked_refused (take_form table form) e wa)

      module _ (f : Form) (wa : Gives (take_form table form) (Ok f)) (places : length f.terms ≡ 48) (d : Derivation) (wd : Derived table f d) (rooms : length d.last.terms ≡ 48) where
        taken : take_form table form ≡ given (form_of f)
        taken = worked_given (take_form table form) f wa

        steps-long : length (steps_of d.steps) ≡ d.steps.count
        steps-long = L.steps-long d.steps wd.valid.steps

        -- there is room
        log-asks : d.steps.count + d.last.count ≤ 48
        log-asks = omega (arith, wd.saves, wa.valid.few)

        derived : Derives table (form_of f) (steps_of d.steps) (form_of d.last)
        derived = wd.derives (table_good_lem table (sym et)) (taken_so table form (form_of f) taken).letters_tested

        last_long : length (form_of d.last).terms ≡ d.last.count
        last_long = form-long d.last wd.valid.last rooms

        -- the log is short
        pub log-fits : (size : ℕ) (out' : List ℕ) → LogWritten out out' size (form_of f) (steps_of d.steps) (form_of d.last) → size ≤ shortening_bytes
        log-fits size out' w = omega (arith, w.ends, saving-log_short (form_of f) (steps_of d.steps) (form_of d.last) derived.in_shape (omega (arith, log-asks, steps-long, last_long)))

        -- the log
        pub log_written : Bytes form → (size : ℕ) (out' : List ℕ) → LogWritten out out' size (form_of f) (steps_of d.steps) (form_of d.last)
            → Shortened table form out (shortened size d.steps.count) out'
        unfolding ShortenedBy
        log_written bytes size out' w =
            by_tests (given (form_of f)) (shortened size d.steps.count) out' (tests-are ∙ taken)
            (subst (λ (k : ℕ). H.ShortenedTo table form (form_of f) out size k out') steps-long
            (shortened_to table form out out' (form_of f) (steps_of d.steps) (form_of d.last) size bytes taken derived
            w.ends w.bytes (omega (arith, log-fits size out' w, enough))
            (omega (arith, steps-long, last_long, form-long f wa.valid places, wd.saves)) (wd.shortest (taken_so table form (form_of f) taken).letters_tested)))
