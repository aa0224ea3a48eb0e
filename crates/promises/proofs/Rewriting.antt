-- A form read and written again, test by test. Assumes nothing.
use mathlib.Core.Path.{◌≡◌, ap, sym, ◌∙◌}
use mathlib.Core.List.{List}
use Prim.Native.Nat.{ℕ, ◌≤◌, ◌<◌}
use borrow.Author.Tests.{lt-leb}
use lib.ListN.{length}
use Rattle.specification.specs.Results.{Result, refused, given}
use Rattle.specification.specs.Letters.{test_table}
use Rattle.specification.specs.Terms as S
use Rattle.specification.specs.Records.{form_bytes, write_form, write_into, form_tested, take_form}
use Rattle.specification.specs.Promises.{rewrite_tested, rewrite_answer, rewrite_call}
use Rattle.theory.specs.Records.Positions.{Bytes}
use Rattle.std.specs.Prelude.{Ok, Err}
use Rattle.refusal.specs.declared.Refusal.{Refusal}
use Rattle.refusal.specs.Numbers.{number_of}
use Rattle.refusal.specs.Tests.{test_of}
use Rattle.terms.specs.declared.types.Form.{Form}
use Rattle.terms.specs.Abstraction.{form_of}
use Rattle.terms.specs.Valid.{Gives}
use Rattle.forms.specs.Written.{FormWritten}
use Rattle.forms.proofs.RoundTrip.{taken_written}
use Rattle.forms.proofs.FormCalls.{content-decides}
use Rattle.terms.proofs.Outcomes.{worked_given, worked_refused}

module _ (table form out : List ℕ) where
  by_tests : (t : Result S.Form) → rewrite_tested table form out ≡ t → rewrite_answer t form out ≡ rewrite_call table form out
  unfolding rewrite_call
  by_tests t e = sym (ap (λ (t : Result S.Form). rewrite_answer t form out) e)

  -- 1
  pub table_refused : (e : Refusal) → test_of (Err e) ≡ test_table table → ◌≡◌ {A = Result ℕ × List ℕ} (refused (number_of e), out) (rewrite_call table form out)
  unfolding rewrite_tested rewrite_answer form_tested
  table_refused e h = by_tests (refused (number_of e)) (rw (← h))

  module _ (u : Unit {0}) (tb : test_of (Ok u) ≡ test_table table) where
    -- 2
    pub out_refused : length out < form_bytes → ◌≡◌ {A = Result ℕ × List ℕ} (refused 2, out) (rewrite_call table form out)
    unfolding rewrite_tested rewrite_answer form_tested
    out_refused h = by_tests (refused 2) (rw (← tb, lt-leb form_bytes (length out) h))

    module _ (enough : form_bytes ≤ length out) where
      tests-are : rewrite_tested table form out ≡ take_form table form
      unfolding rewrite_tested
      tests-are = content-decides table out (take_form table form) u tb enough

      -- 11, 5, 6
      pub form_refused : (e : Refusal) → Gives (take_form table form) (Err e) → ◌≡◌ {A = Result ℕ × List ℕ} (refused (number_of e), out) (rewrite_call table form out)
      unfolding rewrite_answer
      form_refused e wa = by_tests (refused (number_of e)) (tests-are ∙ worked_refused (take_form table form) e wa)

      -- the bytes that were read
      pub form_written : Bytes form → (f : Form) → Gives (take_form table form) (Ok f) → (n : ℕ) (out' : List ℕ) → FormWritten out out' n (form_of f)
          → ◌≡◌ {A = Result ℕ × List ℕ} (given n, out') (rewrite_call table form out)
      unfolding rewrite_answer
      form_written bytes f wa n out' w =
          let taken = worked_given (take_form table form) f wa in
          let same : write_form (form_of f) ≡ form = taken_written table form (form_of f) bytes taken in
          (λ i. (given ((w.ends ∙ ap length same) i), (w.bytes ∙ ap (λ (l : List ℕ). write_into l out) same) i))
          ∙ by_tests (given (form_of f)) (tests-are ∙ taken)
