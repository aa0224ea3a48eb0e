-- Two forms taken together: the shapes first, then the letters. Assumes nothing.
use mathlib.Core.Path.{◌≡◌, sym}
use mathlib.Core.List.{List}
use Prim.Native.Nat.{ℕ}
use Rattle.std.specs.Prelude.{Ok, Err}
use Rattle.specification.specs.Results.{Result, refused, given}
use Rattle.specification.specs.Terms as S
use Rattle.specification.specs.Records.{read_form, test_terms, take_both}
use Rattle.refusal.specs.declared.Refusal.{Refusal}
use Rattle.refusal.specs.Numbers.{number_of}
use Rattle.refusal.specs.Tests.{test_of}
use Rattle.terms.specs.Abstraction.{form_of, terms_of}
use Rattle.terms.specs.declared.types.Form.{Form}
use Rattle.terms.specs.Valid.{Gives}
use Rattle.forms.specs.Reading.{both_of, BothRead}

module _ (table s t : List ℕ) where
  -- the first is refused
  pub first_unread : (n : Refusal) → Gives (read_form s) (Err n) → BothRead (take_both table s t) (Err n)
  unfolding take_both both_of
  first_unread n p = record { is = rw (← p.is); first = tt; second = tt }

  module _ (f : Form) (p : Gives (read_form s) (Ok f)) where
    -- the second is
    pub second_unread : (n : Refusal) → Gives (read_form t) (Err n) → BothRead (take_both table s t) (Err n)
    unfolding take_both both_of
    second_unread n q = record { is = rw (← p.is, ← q.is); first = tt; second = tt }

    module _ (g : Form) (q : Gives (read_form t) (Ok g)) where
      -- the letters of the first are
      pub first_other : (n : Refusal) → test_of (Err n) ≡ test_terms table (terms_of f) → BothRead (take_both table s t) (Err n)
      unfolding take_both both_of form_of terms_of
      first_other n c = record { is = rw (← p.is, ← q.is, ← c); first = tt; second = tt }

      module _ (u : Unit {0}) (c : test_of (Ok u) ≡ test_terms table (terms_of f)) where
        -- those of the second are
        pub second_other : (n : Refusal) → test_of (Err n) ≡ test_terms table (terms_of g) → BothRead (take_both table s t) (Err n)
        unfolding take_both both_of form_of terms_of
        second_other n d = record { is = rw (← p.is, ← q.is, ← c, ← d); first = tt; second = tt }

        -- none is
        pub both_read : (v : Unit {0}) → test_of (Ok v) ≡ test_terms table (terms_of g) → BothRead (take_both table s t) (Ok (f, g))
        unfolding take_both both_of form_of terms_of
        both_read v d = record { is = rw (← p.is, ← q.is, ← c, ← d); first = p.valid; second = q.valid }

-- both forms were given
pub both-passed : (f g : Form) (x : Result (S.Form × S.Form)) → both_of (Ok (f, g)) ≡ x → x ≡ given (form_of f, form_of g)
unfolding both_of
both-passed f g x e = sym e

-- or refused
pub both_refused : (n : Refusal) (x : Result (S.Form × S.Form)) → both_of (Err n) ≡ x → x ≡ refused (number_of n)
unfolding both_of
both_refused n x e = sym e
