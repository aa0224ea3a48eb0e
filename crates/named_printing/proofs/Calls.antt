-- The call that prints a form with declared names: its tests in order, and the text. Assumes nothing.
use mathlib.Core.Path.{◌≡◌, refl, ap, sym, ◌∙◌}
use mathlib.Core.Bool.{Bool, true, false}
use mathlib.Core.List.{List}
use Prim.Native.Nat.{ℕ, ◌≤◌, ◌<◌}
use native.Mathlib.Omega.{arith}
use borrow.Author.Tests.{le-leb, lt-leb}
use lib.ListN.{length}
use Rattle.specification.specs.Results.{Result, refused, given}
use Rattle.specification.specs.Letters.{test_table}
use Rattle.specification.specs.Terms as S
use Rattle.specification.specs.Records.{take_form}
use Rattle.specification.specs.Printing.{print_form, line_bytes, TextWritten}
use Rattle.specification.specs.Text.{good_names, test_names, print_named_tested, print_named_answer, print_named_call}
use Rattle.theory.specs.Tests.{refused≢given, given_same, holds}
use Rattle.theory.specs.Records.Taken.{taken_so}
use Rattle.theory.specs.Text.Names.{names_count}
use Rattle.std.specs.Prelude.{Ok, Err}
use Rattle.std.specs.Prelude as Std
use Rattle.refusal.specs.declared.Refusal.{Refusal}
use Rattle.refusal.specs.Numbers.{number_of}
use Rattle.refusal.specs.Tests.{test_of}
use Rattle.terms.specs.declared.types.Form.{Form}
use Rattle.terms.specs.Abstraction.{form_of}
use Rattle.terms.specs.Valid.{Gives}
use Rattle.terms.proofs.Outcomes.{worked_given}
use Rattle.records.proofs.Inside.{written_inside}
use Rattle.symbols.specs.Printable.{Printable}
use Rattle.printing.proofs.Named.{printable}
use Rattle.printer_call.specs.Answers.{length_of}

module _ (table names form out : List ℕ) where
  answers : (x : Result S.Form) → print_named_tested table names form out ≡ x → print_named_answer names x out ≡ print_named_call table names form out
  unfolding print_named_call
  answers x e = ap (λ (y : Result S.Form). print_named_answer names y out) (sym e)

  -- a refusal: the memory stands
  refused_so : (n : ℕ) → print_named_tested table names form out ≡ refused n → ◌≡◌ {A = Result ℕ × List ℕ} (refused n, out) (print_named_call table names form out)
  unfolding print_named_answer
  refused_so n e = answers (refused n) e

  -- the table is refused
  pub table_refused : (e : Refusal) → test_of (Err e) ≡ test_table table → ◌≡◌ {A = Result ℕ × List ℕ} (refused (number_of e), out) (print_named_call table names form out)
  unfolding print_named_tested
  table_refused e h = refused_so (number_of e) (rw (← h) refl)

  module _ (u : Unit {0}) (h : test_of (Ok u) ≡ test_table table) (g : Bool) (hg : g ≡ good_names names table) where
    -- the names are
    pub names_refused : g ≡ false → ◌≡◌ {A = Result ℕ × List ℕ} (refused 1, out) (print_named_call table names form out)
    unfolding print_named_tested test_names
    names_refused e = refused_so 1 (rw (← h, sym hg ∙ e))

    module _ (t : g ≡ true) where
      -- the memory is too short
      pub out_refused : length out < line_bytes → ◌≡◌ {A = Result ℕ × List ℕ} (refused 2, out) (print_named_call table names form out)
      unfolding print_named_tested test_names
      out_refused l = refused_so 2 (rw (← h, sym hg ∙ t, lt-leb line_bytes (length out) l))

      module _ (l : line_bytes ≤ length out) where
        form-decides : print_named_tested table names form out ≡ take_form table form
        unfolding print_named_tested test_names
        form-decides = rw (← h, sym hg ∙ t, le-leb line_bytes (length out) l)

        -- what the form is refused with
        pub form_refused : (e : Refusal) → Gives (take_form table form) (Err e) → ◌≡◌ {A = Result ℕ × List ℕ} (refused (number_of e), out) (print_named_call table names form out)
        form_refused e read = refused_so (number_of e) (form-decides ∙ sym read.is)

        module _ (f : Form) (read : Gives (take_form table form) (Ok f)) where
          -- a form that was taken can be printed
          pub form-printable : Printable names f
          form-printable =
              let fit = names_count names table (holds (good_names names table) (sym hg ∙ t)) in
              printable table names (omega arith) f read.valid
              (taken_so table form (form_of f) (worked_given (take_form table form) f read)).letters_tested

          -- and its text is written
          pub form-printed : (n : ℕ) (after : List ℕ) → TextWritten out after n (print_form names (form_of f).terms)
              → ◌≡◌ {A = Result ℕ × List ℕ} (given n, after) (print_named_call table names form out)
          unfolding print_named_answer
          form-printed n after v =
              (λ i. (given (v.ends i), v.bytes i)) ∙ answers (given (form_of f)) (form-decides ∙ worked_given (take_form table form) f read)

-- a text that was printed lies inside the memory lent
pub text-inside : (table names form out after : List ℕ) (a : Std.Result ℕ Refusal) (n : ℕ)
    → ◌≡◌ {A = Result ℕ × List ℕ} (length_of a, after) (print_named_call table names form out) → a ≡ Ok n → n ≤ length after
unfolding print_named_call print_named_answer
text-inside table names form out after a n contract g = go (print_named_tested table names form out) ((λ i. (length_of (sym g i), after)) ∙ contract)
  where
    go : (x : Result S.Form) → ◌≡◌ {A = Result ℕ × List ℕ} (given n, after) (print_named_answer names x out) → n ≤ length after
    go (refused m) e = absurd (refused≢given (sym (ap (λ (p : Result ℕ × List ℕ). p.0) e)))
    go (given f) e =
        written_inside (print_form names f.terms) out after n (given_same (ap (λ (p : Result ℕ × List ℕ). p.0) e)) (ap (λ (p : Result ℕ × List ℕ). p.1) e)
