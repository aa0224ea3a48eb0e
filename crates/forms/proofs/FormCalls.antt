-- Calls that give a form: their tests in order, what they answer with, and what a length that was answered says of the bytes lent. Assumes nothing.
use mathlib.Core.Path.{◌≡◌, refl, ap, sym, ◌∙◌}
use mathlib.Core.List.{List}
use Prim.Native.Nat.{ℕ, ◌≤◌, ◌<◌}
use borrow.Author.Tests.{le-leb, lt-leb}
use lib.Dec.{T, leb}
use lib.ListN.{length, take, drop}
use lib.Seq.{take_at}
use Rattle.specification.specs.Results.{Result, Test, refused, given, ◌>>◌, require}
use Rattle.specification.specs.Letters.{good_table, test_table}
use Rattle.specification.specs.Terms as S
use Rattle.specification.specs.Records.{form_bytes, write_form, write_into, answer_form, form_tested, test_terms, take_form}
use Rattle.theory.specs.Tests.{refused≢given, given_same, required}
use Rattle.theory.specs.Shape.Forms.{FormInShape}
use Rattle.theory.specs.Records.Forms.{form-read_back}
use Rattle.std.specs.Prelude.{Ok, Err}
use Rattle.refusal.specs.declared.Refusal.{Refusal}
use Rattle.refusal.specs.Numbers.{number_of}
use Rattle.terms.specs.declared.types.Form.{Form}
use Rattle.terms.specs.Abstraction.{form_of}
use Rattle.terms.specs.Valid.{Gives}
use Rattle.terms.proofs.Outcomes.{worked_given, worked_refused}
use Rattle.refusal.specs.Tests.{test_of}
use Rattle.forms.specs.Written.{FormWritten}

-- ════ the tests and the answer

module _ (table out : List ℕ) (content : Result S.Form) where
  answers : (r : Result S.Form) → form_tested table out content ≡ r → answer_form r out ≡ answer_form (form_tested table out content) out
  answers r e = ap (λ (x : Result S.Form). answer_form x out) (sym e)

  -- a refusal: all memory stands
  refused_so : (n : ℕ) → form_tested table out content ≡ refused n → ◌≡◌ {A = Result ℕ × List ℕ} (refused n, out) (answer_form (form_tested table out content) out)
  unfolding answer_form
  refused_so n e = answers (refused n) e

  -- 1
  pub table_refused : (e : Refusal) → test_of (Err e) ≡ test_table table → ◌≡◌ {A = Result ℕ × List ℕ} (refused (number_of e), out) (answer_form (form_tested table out content) out)
  unfolding form_tested
  table_refused e h = refused_so (number_of e) (ap (λ (t : Test). t >> (require (leb form_bytes (length out)) 2 >> content)) (sym h))

  module _ (u : Unit {0}) (h : test_of (Ok u) ≡ test_table table) where
    past-table : form_tested table out content ≡ (require (leb form_bytes (length out)) 2 >> content)
    unfolding form_tested
    past-table = ap (λ (t : Test). t >> (require (leb form_bytes (length out)) 2 >> content)) (sym h)

    -- 2
    pub short_refused : length out < form_bytes → ◌≡◌ {A = Result ℕ × List ℕ} (refused 2, out) (answer_form (form_tested table out content) out)
    short_refused l = refused_so 2 (past-table ∙ rw (lt-leb form_bytes (length out) l))

    module _ (l : form_bytes ≤ length out) where
      -- contents
      pub content-decides : form_tested table out content ≡ content
      content-decides = past-table ∙ rw (le-leb form_bytes (length out) l)

      -- what the content is refused with
      pub content_refused : (e : Refusal) → Gives content (Err e) → ◌≡◌ {A = Result ℕ × List ℕ} (refused (number_of e), out) (answer_form (form_tested table out content) out)
      content_refused e w = refused_so (number_of e) (content-decides ∙ worked_refused content e w)

      -- the record written
      pub form_written : (f : Form) → Gives content (Ok f) → (n : ℕ) (after : List ℕ) → FormWritten out after n (form_of f)
          → ◌≡◌ {A = Result ℕ × List ℕ} (given n, after) (answer_form (form_tested table out content) out)
      unfolding answer_form
      form_written f w n after v = (λ i. (given (v.ends i), v.bytes i)) ∙ answers (given (form_of f)) (content-decides ∙ worked_given content f w)

-- ════ a length that was answered

-- the content gave a form, and its record was written
pub record FormAnswered (table out : List ℕ) (content : Result S.Form) (n : ℕ) (after : List ℕ) : Type 0 where
  pub form : S.Form
  pub good : T (good_table table)
  pub is : content ≡ given form
  pub size : n ≡ length (write_form form)
  pub bytes : after ≡ write_into (write_form form) out

pub form-answered : (table out : List ℕ) (content : Result S.Form) (n : ℕ) (after : List ℕ)
    → ◌≡◌ {A = Result ℕ × List ℕ} (given n, after) (answer_form (form_tested table out content) out) → FormAnswered table out content n after
unfolding form_tested test_table answer_form
form-answered table out content n after h = go (form_tested table out content) refl h
  where
    go : (x : Result S.Form) → form_tested table out content ≡ x → ◌≡◌ {A = Result ℕ × List ℕ} (given n, after) (answer_form x out) → FormAnswered table out content n after
    go (refused m) e k = absurd (refused≢given (sym (ap (λ (p : Result ℕ × List ℕ). p.0) k)))
    go (given f) e k =
        let a = required (good_table table) 1 (require (leb form_bytes (length out)) 2 >> content) f e in
        record {
          form = f;
          good = a.0;
          is = (required (leb form_bytes (length out)) 2 content f a.1).1;
          size = given_same (ap (λ (p : Result ℕ × List ℕ). p.0) k);
          bytes = ap (λ (p : Result ℕ × List ℕ). p.1) k;
        }

-- a form in shape with letters of the table is read back from the bytes written
pub reads_back : (table out : List ℕ) (f : S.Form) (n : ℕ) (after : List ℕ) → n ≡ length (write_form f) → after ≡ write_into (write_form f) out → FormInShape f
    → test_terms table f.terms ≡ given tt → take_form table (take n after) ≡ given f
unfolding take_form write_into
reads_back table out f n after m b s t =
    (λ i. take_form table (take (m i) (b i)))
    ∙ rw (take_at (write_form f) (drop (length (write_form f)) out) (length (write_form f)) refl, form-read_back f s, t)
