-- Forms taken from their sender; two taken together are taken each alone. Assumes nothing.
use Rattle.std.specs.Prelude.{◌≡◌, List, ℕ}
use Rattle.std.proofs.Common.{subst}
use Rattle.specification.specs.Results.{given}
use Rattle.specification.specs.Terms.{Form}
use Rattle.specification.specs.Records.{read_form, test_terms, take_form, take_both}
use Rattle.theory.specs.Tests.{given_same, tested, into}

-- a form taken from its sender: read, and its letters tested
pub record FormTaken (table s : List ℕ) (f : Form) : Type 0 where
  pub is_read : read_form s ≡ given f
  pub letters_tested : test_terms table f.terms ≡ given tt
  pub is_taken : take_form table s ≡ given f

form_taken_lem : (table s : List ℕ) (f : Form) → read_form s ≡ given f → test_terms table f.terms ≡ given tt → FormTaken table s f
unfolding take_form
form_taken_lem table s f r t = record { is_read = r; letters_tested = t; is_taken = simp (r, t) }

-- what was taken
pub taken_so : (table s : List ℕ) (f : Form) → take_form table s ≡ given f → FormTaken table s f
unfolding take_form
taken_so table s f e =
    into (read_form s) _ f e λ x r e₁.
    let v = tested (test_terms table x.terms) _ f e₁ in
    subst (FormTaken table s) (given_same v.1) (form_taken_lem table s x r v.0)

-- two forms taken together are taken each
pub both_taken : (table s t : List ℕ) (forms : Form × Form) → take_both table s t ≡ given forms → FormTaken table s forms.0 × FormTaken table t forms.1
unfolding take_both
both_taken table s t forms e =
    into (read_form s) _ forms e λ x r e₁.
    into (read_form t) _ forms e₁ λ y q e₂.
    let v = tested (test_terms table x.terms) _ forms e₂ in
    let w = tested (test_terms table y.terms) _ forms v.1 in
    subst (λ (p : Form × Form). FormTaken table s p.0 × FormTaken table t p.1) (given_same w.1)
    (form_taken_lem table s x r v.0, form_taken_lem table t y q w.0)
