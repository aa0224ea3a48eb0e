-- Two forms of one kind: an empty one takes the other's. Assumes nothing.
use mathlib.Core.Path.{◌≡◌, refl, sym, ◌∙◌}
use mathlib.Core.List.{List}
use Prim.Native.Nat.{ℕ, ◌≤◌}
use native.Mathlib.Omega.{arith}
use borrow.Author.Tests.{eq-eqb, ne_eqb}
use lib.ListN.{length, take, length-map}
use lib.Seq.{length-take-le}
use Rattle.specification.specs.Results.{given}
use Rattle.specification.specs.Lists.{all, ascend}
use Rattle.specification.specs.Terms as S
use Rattle.specification.specs.Records.{test_terms}
use Rattle.specification.specs.Text.{Placed, refused_at}
use Rattle.specification.specs.Commands.{paired}
use Rattle.terms.specs.declared.types.Term.{Term}
use Rattle.terms.specs.declared.types.Form.{Form}
use Rattle.terms.specs.Abstraction.{term_of, form_of}
use Rattle.terms.specs.Valid.{FormValid}
use Rattle.std.specs.Prelude.{Ok, Err}
use Rattle.std.specs.Prelude as Std
use Rattle.refusal.specs.declared.Refusal.TheVariants.{WrongKind}
use Rattle.refusal.specs.Numbers.{number_of}
use Rattle.texts.specs.declared.Unread.{Unread}
use Rattle.sides.specs.Readings.{SidesRead, Paired}

-- ════ what is told

-- a refusal
pub sides_refused : (table : List ℕ) (x : Placed (S.Form × S.Form)) (e : Unread) → x ≡ refused_at (number_of e.why) e.column → SidesRead table x (Err e)
sides_refused table x e q = record { is = q; valid_first = tt; valid_second = tt; kinds = tt; tested_first = tt; tested_second = tt }

-- the same in other words
pub sides_as : (table : List ℕ) (x y : Placed (S.Form × S.Form)) (r : Std.Result (Form × Form) Unread) → x ≡ y → SidesRead table x r → SidesRead table y r
sides_as table x y r e h = record {
  is = sym e ∙ h.is;
  valid_first = h.valid_first;
  valid_second = h.valid_second;
  kinds = h.kinds;
  tested_first = h.tested_first;
  tested_second = h.tested_second;
}

-- ════ an empty form

-- of a kind
abbrev empty_form : (kind : ℕ) → List Term → Form
empty_form kind ts = record { kind = kind; count = 0; terms = ts }

module _ (kind : ℕ) (ts : List Term) where
  empty-valid : kind ≤ 1 → FormValid (empty_form kind ts)
  unfolding form_of all ascend
  empty-valid k =
      record { few = omega arith; counted = tt; in_shape = record { kind = k; count = omega arith; terms = tt; parts = tt; ascending = tt } }

  empty_tested : (table : List ℕ) → test_terms table (form_of (empty_form kind ts)).terms ≡ given tt
  unfolding test_terms form_of
  empty_tested table = refl

-- ════ two forms

-- as many terms as counted
counted : (f : Form) → FormValid f → length f.terms ≡ 48 → length (form_of f).terms ≡ f.count
unfolding form_of
counted f v long = length-map (take f.count f.terms) term_of ∙ length-take-le f.count f.terms (omega (arith, long, v.few))

module _ (at : ℕ) (f g : Form) (vf : FormValid f) (vg : FormValid g) (lf : length f.terms ≡ 48) (lg : length g.terms ≡ 48) where
  -- the first is empty
  pub first-empty : f.count ≡ 0 → Paired at f g (Ok (empty_form g.kind f.terms, g))
  unfolding paired form_of
  first-empty e table p q = record {
    is = rw (eq-eqb (length (form_of f).terms) 0 (counted f vf lf ∙ e));
    valid_first = empty-valid g.kind f.terms vg.in_shape.kind;
    valid_second = vg;
    kinds = refl;
    tested_first = empty_tested g.kind f.terms table;
    tested_second = q;
  }

  module _ (some : f.count ≡ 0 → ⊥) where
    -- the second is empty
    pub second_empty : g.count ≡ 0 → Paired at f g (Ok (f, empty_form f.kind g.terms))
    unfolding paired form_of
    second_empty e table p q = record {
      is = rw (ne_eqb (length (form_of f).terms) 0 (λ z. some (sym (counted f vf lf) ∙ z)), eq-eqb (length (form_of g).terms) 0 (counted g vg lg ∙ e));
      valid_first = vf;
      valid_second = empty-valid f.kind g.terms vf.in_shape.kind;
      kinds = refl;
      tested_first = p;
      tested_second = empty_tested f.kind g.terms table;
    }

    module _ (more : g.count ≡ 0 → ⊥) where
      -- they are of one kind
      pub kinds_same : f.kind ≡ g.kind → Paired at f g (Ok (f, g))
      unfolding paired form_of
      kinds_same e table p q = record {
        is = rw (
          ne_eqb (length (form_of f).terms) 0 (λ z. some (sym (counted f vf lf) ∙ z)),
          ne_eqb (length (form_of g).terms) 0 (λ z. more (sym (counted g vg lg) ∙ z)),
          eq-eqb f.kind g.kind e,
        );
        valid_first = vf;
        valid_second = vg;
        kinds = e;
        tested_first = p;
        tested_second = q;
      }

      -- they are not
      pub kinds-other : (f.kind ≡ g.kind → ⊥) → Paired at f g (Err (record { why = WrongKind; column = at }))
      unfolding paired form_of
      kinds-other n table s t =
          sides_refused table (paired at (form_of f) (form_of g)) (record { why = WrongKind; column = at })
          (rw (
            ne_eqb (length (form_of f).terms) 0 (λ z. some (sym (counted f vf lf) ∙ z)),
            ne_eqb (length (form_of g).terms) 0 (λ z. more (sym (counted g vg lg) ∙ z)),
            ne_eqb f.kind g.kind n,
          ))
