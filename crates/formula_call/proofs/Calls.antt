-- The form of a text by value, and the call: its tests in order, a refused text, a record written. Assumes nothing.
use mathlib.Core.Path.{◌≡◌, refl, ap, sym, subst, ◌∙◌}
use mathlib.Core.Bool.{Bool, true, false}
use mathlib.Core.List.{List}
use Prim.Native.Nat.{ℕ, ◌≤◌, ◌<◌}
use native.Mathlib.Omega.{arith}
use borrow.Author.Tests.{le-leb, lt-leb}
use lib.Dec.{leb}
use lib.IntN.{ℤ}
use lib.ListN.{length, set}
use lib.Seq.{set_split}
use Rattle.specification.specs.Results.{Result, Test, refused, given}
use Rattle.specification.specs.Letters.{test_table}
use Rattle.specification.specs.Terms as S
use Rattle.specification.specs.Records.{form_bytes, write_form}
use Rattle.specification.specs.Text.{Placed, refused_at, placed, good_names, test_names, text_form, text_tested, text_answer, text_call}
use Rattle.theory.specs.Tests.{and-false, holds, refused≢given, given_same}
use Rattle.theory.specs.Shape.Letters.{table_good_lem, good_short}
use Rattle.theory.specs.Text.Names.{names_count}
use Rattle.std.specs.Prelude.{Ok, Err}
use Rattle.std.specs.Prelude as Std
use Rattle.refusal.specs.declared.Refusal.{Refusal}
use Rattle.refusal.specs.Numbers.{number_of}
use Rattle.refusal.specs.Tests.{test_of}
use Rattle.terms.specs.declared.types.Form.{Form}
use Rattle.terms.specs.Abstraction.{form_of}
use Rattle.rows.specs.declared.Worked.{Worked}
use Rattle.rows.specs.Rows.{form_by, FormOfRun}
use Rattle.rows.proofs.RowForms.{outcome_given}
use Rattle.records.proofs.Inside.{written_inside}
use Rattle.forms.specs.Written.{FormWritten}
use Rattle.texts.specs.declared.Unread.{Unread}
use Rattle.texts.specs.Readings.{placed_of}
use Rattle.formulas.specs.Readings.{Named, TextRead}
use Rattle.formula_call.specs.Answers.{formula_read_of}
use Rattle.formula_call.specs.Texts.{TextGives}

-- ════ the form of a text

-- it was refused
pub text-unread : (x : Placed S.Form) (e : Unread) (rows : List (List ℕ)) (coefs : List ℤ) → TextRead x (Err e) rows coefs → TextGives x (Err e)
text-unread x e rows coefs h = record { is = sym h.is; valid = tt }

-- it was read and worked
pub text-worked : (x : Placed S.Form) (w : Worked) (rows : List (List ℕ)) (coefs : List ℤ) (f : Form) → TextRead x (Ok w) rows coefs
    → FormOfRun w.kind w.count rows coefs f → TextGives x (Ok f)
text-worked x w rows coefs f h o =
    let g = outcome_given (given (form_by w.kind w.count rows coefs)) w rows coefs f (record { is = refl; form = h.form }) o in
    record { is = ap placed o.is ∙ sym h.is; valid = g.valid }

-- ════ the call

-- the names fit a table that was taken
pub names-named : (table names : List ℕ) (g : Bool) → given tt ≡ test_table table → g ≡ good_names names table → g ≡ true → Named names table
names-named table names g e h t =
    let fit = names_count names table (holds (good_names names table) (sym h ∙ t)) in
    record { fit = omega arith; few = good_short table (table_good_lem table (sym e)) }

module _ (table names s out columns : List ℕ) where
  refused_so : (n : ℕ) → text_tested table names out columns ≡ refused n → ◌≡◌ {A = Result ℕ × List ℕ × List ℕ} (refused n, out, columns) (text_call table names s out columns)
  unfolding text_call text_answer
  refused_so n e = ap (λ (t : Test). text_answer t (text_form names table s) out columns) (sym e)

  -- 1 of the table
  pub table_refused : (e : Refusal) → test_of (Err e) ≡ test_table table
      → ◌≡◌ {A = Result ℕ × List ℕ × List ℕ} (refused (number_of e), out, columns) (text_call table names s out columns)
  unfolding text_tested
  table_refused e h = refused_so (number_of e) (rw (← h))

  module _ (h : given tt ≡ test_table table) (g : Bool) (hg : g ≡ good_names names table) where
    -- 1 of the names
    pub names_refused : g ≡ false → ◌≡◌ {A = Result ℕ × List ℕ × List ℕ} (refused 1, out, columns) (text_call table names s out columns)
    unfolding text_tested test_names
    names_refused e = refused_so 1 (rw (← h, sym hg ∙ e))

    module _ (t : g ≡ true) where
      -- 2 for the record
      pub out_refused : length out < form_bytes → ◌≡◌ {A = Result ℕ × List ℕ × List ℕ} (refused 2, out, columns) (text_call table names s out columns)
      unfolding text_tested test_names
      out_refused l = refused_so 2 (rw (← h, sym hg ∙ t, lt-leb form_bytes (length out) l))

      -- 2 for the column
      pub columns_refused : length columns < 1 → ◌≡◌ {A = Result ℕ × List ℕ × List ℕ} (refused 2, out, columns) (text_call table names s out columns)
      unfolding text_tested test_names
      columns_refused l = refused_so 2 (rw (← h, sym hg ∙ t, lt-leb 1 (length columns) l, and-false (leb form_bytes (length out))))

      module _ (lo : form_bytes ≤ length out) (lc : 1 ≤ length columns) where
        taken : (f : Std.Result Form Unread) → TextGives (text_form names table s) f
            → text_answer (given tt) (placed_of form_of f) out columns ≡ text_call table names s out columns
        unfolding text_call text_tested test_names
        taken f w =
            rw (← h, sym hg ∙ t, le-leb form_bytes (length out) lo, le-leb 1 (length columns) lc)
            (ap (λ (x : Placed S.Form). text_answer (given tt) x out columns) w.is)

        -- a refused text tells its column
        pub text_refused : (e : Unread) → TextGives (text_form names table s) (Err e)
            → ◌≡◌ {A = Result ℕ × List ℕ × List ℕ} (refused (number_of e.why), out, set columns 0 e.column) (text_call table names s out columns)
        unfolding text_answer
        text_refused e w = (λ i. (refused (number_of e.why), out, set_split columns 0 e.column lc i)) ∙ taken (Err e) w

        -- a record is written
        pub text_written : (f : Form) (n : ℕ) (after : List ℕ) → TextGives (text_form names table s) (Ok f) → FormWritten out after n (form_of f)
            → ◌≡◌ {A = Result ℕ × List ℕ × List ℕ} (given n, after, columns) (text_call table names s out columns)
        unfolding text_answer
        text_written f n after w v = (λ i. (given (v.ends i), v.bytes i, columns)) ∙ taken (Ok f) w

-- a record that was written lies inside the memory lent
pub record-inside : (table names s out columns after columns' : List ℕ) (a : Std.Result ℕ Refusal) (n : ℕ)
    → ◌≡◌ {A = Result ℕ × List ℕ × List ℕ} (formula_read_of a, after, columns') (text_call table names s out columns) → a ≡ Ok n → n ≤ length after
unfolding text_call text_answer
record-inside table names s out columns after columns' a n contract g =
    go (text_tested table names out columns) (text_form names table s) ((λ i. (formula_read_of (sym g i), after, columns')) ∙ contract)
  where
    go : (t : Test) (x : Placed S.Form) → ◌≡◌ {A = Result ℕ × List ℕ × List ℕ} (given n, after, columns') (text_answer t x out columns) → n ≤ length after
    go (refused m) x e = absurd (refused≢given (sym (ap (λ (p : Result ℕ × List ℕ × List ℕ). p.0) e)))
    go (given u) (refused_at m c) e = absurd (refused≢given (sym (ap (λ (p : Result ℕ × List ℕ × List ℕ). p.0) e)))
    go (given u) (placed f) e =
        written_inside (write_form f) out after n (given_same (ap (λ (p : Result ℕ × List ℕ × List ℕ). p.0) e)) (ap (λ (p : Result ℕ × List ℕ × List ℕ). p.1) e)
