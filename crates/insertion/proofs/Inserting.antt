-- Insertion test by test: both forms, the letter, the kind, then what working gives. Assumes nothing.
use mathlib.Core.Path.{◌≡◌, refl, ap, sym, ◌∙◌}
use mathlib.Core.List.{List}
use Prim.Native.Nat.{ℕ}
use borrow.Author.Tests.{eq-eqb, ne_eqb}
use lib.Dec.{eqb, eqb→eq}
use Rattle.specification.specs.Results.{Result, Test, refused, given, ◌>>=◌, ◌>>◌, require}
use Rattle.specification.specs.Letters.{vector, test_letter}
use Rattle.specification.specs.Terms as S
use Rattle.specification.specs.Records.{take_both}
use Rattle.specification.specs.Insertion.{take_insertion, insert_form, with_inserted}
use Rattle.theory.specs.Tests.{tested, passed}
use Rattle.terms.specs.declared.types.Form.{Form}
use Rattle.std.specs.Prelude.{Ok, Err}
use Rattle.std.specs.Prelude as Std
use Rattle.refusal.specs.declared.Refusal.{Refusal}
use Rattle.refusal.specs.declared.Refusal.TheVariants.{WrongKind}
use Rattle.terms.specs.Abstraction.{form_of}
use Rattle.terms.specs.Valid.{Gives}
use Rattle.terms.proofs.Outcomes.{refuses, works_as}
use Rattle.refusal.specs.Tests.{test_of}
use Rattle.letters.proofs.LetterTests.{stops, goes_on}
use Rattle.forms.specs.Reading.{BothRead}
use Rattle.forms.proofs.BothForms.{both-passed, both_refused}
use Rattle.insertion.specs.Tests.{test_replaced}

-- ════ a kind

pub not_vector : (kind : ℕ) → (kind ≡ 1 → ⊥) → test_of (Err WrongKind) ≡ require (eqb kind vector) 6
not_vector kind h = rw (ne_eqb kind 1 h)

pub is-vector : (kind : ℕ) → kind ≡ 1 → test_of (Ok tt) ≡ require (eqb kind vector) 6
is-vector kind e = rw (eq-eqb kind 1 e)

-- ════ the tests

-- two tests and then the rest
in-turn : (t u : Test) (p : S.Form × S.Form) (k : S.Form × S.Form → Result S.Form) → ((t >> (u >> given p)) >>= k) ≡ ((t >> u) >> k p)
in-turn (refused n) u p k = refl
in-turn (given x) (refused n) p k = refl
in-turn (given x) (given y) p k = refl

-- the letter, then the kind
module _ (table : List ℕ) (letter kind : ℕ) where
  pub letter_refused : (e : Refusal) → test_of (Err e) ≡ test_letter table vector letter → test_of (Err e) ≡ test_replaced table letter kind
  unfolding test_replaced
  letter_refused e h = stops e _ _ h

  pub kind-decides : {u : Unit {0}} (r : Std.Result (Unit {0}) Refusal) → test_of (Ok u) ≡ test_letter table vector letter → test_of r ≡ require (eqb kind vector) 6
      → test_of r ≡ test_replaced table letter kind
  unfolding test_replaced
  kind-decides r h g = g ∙ sym (goes_on _ _ h)

module _ (table form : List ℕ) (letter : ℕ) (inserted : List ℕ) where
  -- 11, then 5 or 6: the two forms
  pub forms_refused : (e : Refusal) → BothRead (take_both table form inserted) (Err e) → Gives (with_inserted table form letter inserted) (Err e)
  unfolding with_inserted take_insertion
  forms_refused e rb = refuses (with_inserted table form letter inserted) e (rw (both_refused e (take_both table form inserted) rb.is))

  module _ (f g : Form) (rb : BothRead (take_both table form inserted) (Ok (f, g))) where
    -- what is left is the tests of the letter and the kind
    past-forms : with_inserted table form letter inserted ≡ (test_replaced table letter g.kind >> insert_form letter (form_of g) (form_of f))
    unfolding with_inserted take_insertion test_replaced form_of
    past-forms =
        rw (both-passed f g (take_both table form inserted) rb.is)
        (in-turn (test_letter table vector letter) (require (eqb g.kind vector) 6) (form_of f, form_of g)
        (λ p. insert_form letter p.1 p.0))

    -- 5 or 6: the letter, or 6: the kind
    pub replaced_refused : (e : Refusal) → test_of (Err e) ≡ test_replaced table letter g.kind → Gives (with_inserted table form letter inserted) (Err e)
    replaced_refused e tc =
        refuses (with_inserted table form letter inserted) e (past-forms ∙ ap (λ (t : Test). t >> insert_form letter (form_of g) (form_of f)) (sym tc))

    module _ (u : Unit {0}) (tc : test_of (Ok u) ≡ test_replaced table letter g.kind) where
      -- so it is a vector form
      pub second-vector : g.kind ≡ 1
      unfolding test_replaced
      second-vector =
          eqb→eq g.kind vector
          (passed (eqb g.kind vector) 6 (tested (test_letter table vector letter) (require (eqb g.kind vector) 6) tt (sym tc)).1)

      -- and working decides
      pub working_decides : (r : Std.Result Form Refusal) → Gives (insert_form letter (form_of g) (form_of f)) r → Gives (with_inserted table form letter inserted) r
      working_decides r = works_as _ (with_inserted table form letter inserted) r
          (sym (past-forms ∙ ap (λ (t : Test). t >> insert_form letter (form_of g) (form_of f)) (sym tc)))
