-- Forms of at most one term in rows: a letter alone, a constant. Assumes nothing.
use mathlib.Core.Path.{◌≡◌, refl, ap, sym, subst, ◌∙◌}
use mathlib.Core.Bool.{Bool, true, false}
use mathlib.Core.List.{List, [], ◌∷◌}
use Prim.Native.Nat.{ℕ, ◌≤◌}
use native.Mathlib.Omega.{arith}
use borrow.Author.Tests.{ne_eqb}
use lib.IntN.{ℤ, nat_abs}
use lib.ListN.{length, set}
use mir.Syntax.{w64}
use mir.Val.{SFits}
use Rattle.specification.specs.Results.{Result, given}
use Rattle.specification.specs.Terms.{plus, is_zero, keep, coef_within, term_in_shape}
use Rattle.specification.specs.Terms as S
use Rattle.specification.specs.Reduction.{letter_form, constant_form}
use Rattle.theory.specs.Tests.{holds}
use Rattle.theory.specs.Elements.{all_T}
use Rattle.theory.specs.Shape.Terms.{in_limit}
use Rattle.theory.specs.Shape.Forms.{FormInShape, form-gathered}
use Rattle.theory.proofs.Reduction.Work.{alone, letter_form_lem, constant_form_lem}
use Rattle.integers.proofs.Machine.{back, back_is}
use Rattle.terms.specs.declared.types.Term.{Term}
use Rattle.terms.specs.Numbers.{letters_of}
use Rattle.terms.specs.Abstraction.{term_of}
use Rattle.std.specs.Prelude.{Ok, Err}
use Rattle.std.specs.Prelude as Std
use Rattle.refusal.specs.declared.Refusal.{Refusal}
use Rattle.refusal.specs.declared.Refusal.TheVariants.{LargeCoefficient}
use Rattle.rows.specs.declared.Worked.{Worked}
use Rattle.rows.specs.Rows.{RowOf, term_by, terms_by, run_of, Light, RowsGive}
use Rattle.rows.proofs.RowForms.{rows_refused, rows_as}
use Rattle.leaves.specs.Leaves.{TermAs}

-- ════ at most one term

-- no term
pub none_gives : (kind : ℕ) (rows : List (List ℕ)) (coefs : List ℤ) → FormInShape (record { kind = kind; terms = [] })
    → RowsGive (given (record { kind = kind; terms = [] })) (Ok (record { kind = kind; count = 0 })) rows coefs
unfolding run_of terms_by Light
none_gives kind rows coefs s = record {
  is = refl;
  form = record { run = record { room = omega arith; beside = omega arith; valid = tt; ascending = tt }; light = tt; few = omega arith; in_shape = s };
}

-- one term in the first row
pub alone-gives : (kind : ℕ) (t : Term) (r : List ℕ) (z : ℤ) (rows : List (List ℕ)) (coefs : List ℤ)
    → FormInShape (record { kind = kind; terms = term_of t ∷ [] }) → RowOf t r → z ≡ t.coef
    → 1 ≤ length rows → 1 ≤ length coefs → RowsGive (given (record { kind = kind; terms = term_of t ∷ [] })) (Ok (record { kind = kind; count = 1 }))
    (set rows 0 r) (set coefs 0 z)
unfolding run_of terms_by Light term_of
alone-gives kind t r z [] coefs s q e hr hc = absurd (omega arith)
alone-gives kind t r z (x ∷ rows) [] s q e hr hc = absurd (omega arith)
alone-gives kind t r z (x ∷ rows) (y ∷ coefs) s q e hr hc =
    let is : run_of 1 (r ∷ rows) (z ∷ coefs) ≡ term_of t ∷ [] = ap (λ (u : S.Term). u ∷ []) (ap (term_by r) e ∙ q.is) in
    let l : nat_abs t.coef ≤ 2147483647 = in_limit (term_of t) (all_T term_in_shape (term_of t ∷ []) s.terms).0 in
    let v : FormInShape (record { kind = kind; terms = run_of 1 (r ∷ rows) (z ∷ coefs) }) = subst
    (λ (l : List S.Term). FormInShape (record { kind = kind; terms = l })) (sym is) s in
    record {
      is = ap (λ (l : List S.Term). given (record { kind = kind; terms = l })) is;
      form = record {
        run = record {
          room = omega arith;
          beside = omega arith;
          valid = (q.valid, tt);
          ascending = (form-gathered
              (record { kind = kind; terms = run_of 1 (r ∷ rows) (z ∷ coefs) }) v).ascending;
        };
        light = (subst (λ (y : ℤ). nat_abs y ≤ 2147483647) (sym e) l, tt);
        few = omega arith;
        in_shape = v;
      };
    }

module _ (kind : ℕ) (t : Term) (u : S.Term) (m : TermAs u t) where
  -- by what the term is
  alone-shape : FormInShape (record { kind = kind; terms = u ∷ [] }) → FormInShape (record { kind = kind; terms = term_of t ∷ [] })
  alone-shape = subst (λ (x : S.Term). FormInShape (record { kind = kind; terms = x ∷ [] })) (sym m.is)

  alone_as : (x : Result S.Form) (w : Std.Result Worked Refusal) (rows : List (List ℕ)) (coefs : List ℤ) → x ≡ given (record { kind = kind; terms = u ∷ [] })
      → RowsGive (given (record { kind = kind; terms = term_of t ∷ [] })) w rows coefs → RowsGive x w rows coefs
  alone_as x w rows coefs e = rows_as _ x w rows coefs (ap (λ (y : S.Term). given (record { kind = kind; terms = y ∷ [] })) m.is ∙ sym e)

-- ════ letters

other-kind : (n kind : ℕ) → (kind ≡ 0 → ⊥) → letter_form n kind ≡ letter_form n 1
unfolding letter_form
other-kind n kind h = rw (ne_eqb kind 0 h)

-- a factor of one letter, by its number
pub scalar_as : (n k : ℕ) (t : Term) → letters_of k ≡ n ∷ [] → TermAs (plus (letters_of k ∷ []) []) t → TermAs (plus ((n ∷ []) ∷ []) []) t
scalar_as n k t e = subst (λ (f : List ℕ). TermAs (plus (f ∷ []) []) t) e

-- a letter of the kind 0
module _ (n : ℕ) (t : Term) (m : TermAs (plus ((n ∷ []) ∷ []) []) t) where
  pub scalar-shape : FormInShape (record { kind = 0; terms = term_of t ∷ [] })
  unfolding letter_form
  scalar-shape = alone-shape 0 t (plus ((n ∷ []) ∷ []) []) m (letter_form_lem n 0)

  pub letter-scalar : (kind : ℕ) (w : Std.Result Worked Refusal) (rows : List (List ℕ)) (coefs : List ℤ) → kind ≡ 0
      → RowsGive (given (record { kind = 0; terms = term_of t ∷ [] })) w rows coefs
      → RowsGive (given (letter_form n kind)) w rows coefs
  unfolding letter_form
  letter-scalar kind w rows coefs e =
      alone_as 0 t (plus ((n ∷ []) ∷ []) []) m (given (letter_form n kind)) w rows coefs (ap (λ (k : ℕ). given (letter_form n k)) e)

-- a letter of any other kind
module _ (n : ℕ) (t : Term) (m : TermAs (plus [] (n ∷ [])) t) where
  pub vector-shape : FormInShape (record { kind = 1; terms = term_of t ∷ [] })
  unfolding letter_form
  vector-shape = alone-shape 1 t (plus [] (n ∷ [])) m (letter_form_lem n 1)

  pub letter-vector : (kind : ℕ) (w : Std.Result Worked Refusal) (rows : List (List ℕ)) (coefs : List ℤ) → (kind ≡ 0 → ⊥)
      → RowsGive (given (record { kind = 1; terms = term_of t ∷ [] })) w rows coefs
      → RowsGive (given (letter_form n kind)) w rows coefs
  unfolding letter_form
  letter-vector kind w rows coefs h = alone_as 1 t (plus [] (n ∷ [])) m (given (letter_form n kind)) w rows coefs (ap given (other-kind n kind h))

-- ════ constants

-- beyond
pub constant-nine : (k : ℤ) (b : Bool) (rows : List (List ℕ)) (coefs : List ℤ) → b ≡ coef_within k → b ≡ false → RowsGive (constant_form k) (Err LargeCoefficient) rows coefs
unfolding constant_form
constant-nine k b rows coefs e p = rows_refused (constant_form k) LargeCoefficient rows coefs (rw (sym e ∙ p))

module _ (k : ℤ) (b z : Bool) (e : b ≡ coef_within k) (p : b ≡ true) (q : z ≡ is_zero k) where
  constant_given : (ts : List S.Term) → keep (alone k) [] ≡ ts → constant_form k ≡ given (record { kind = 0; terms = ts })
  unfolding constant_form
  constant_given ts h = rw (sym e ∙ p) (ap (λ (ts : List S.Term). given (record { kind = 0; terms = ts })) h)

  constant-shape : (ts : List S.Term) → keep (alone k) [] ≡ ts → FormInShape (record { kind = 0; terms = ts })
  constant-shape ts h = subst (λ (ts : List S.Term). FormInShape (record { kind = 0; terms = ts })) h (constant_form_lem k (holds (coef_within k) (sym e ∙ p)))

  -- 0
  pub constant_zero : (rows : List (List ℕ)) (coefs : List ℤ) → z ≡ true → RowsGive (constant_form k) (Ok (record { kind = 0; count = 0 })) rows coefs
  unfolding keep
  constant_zero rows coefs h =
      let none : keep (alone k) [] ≡ [] = rw (sym q ∙ h) in
      rows_as (given (record { kind = 0; terms = [] })) (constant_form k) _ rows coefs (sym (constant_given [] none))
      (none_gives 0 rows coefs (constant-shape [] none))

  -- any other
  module _ (h : z ≡ false) (t : Term) (m : TermAs (alone k) t) where
    one : keep (alone k) [] ≡ alone k ∷ []
    unfolding keep
    one = rw (sym q ∙ h)

    pub one_shape : FormInShape (record { kind = 0; terms = term_of t ∷ [] })
    one_shape = alone-shape 0 t (alone k) m (constant-shape (alone k ∷ []) one)

    pub constant_one : (w : Std.Result Worked Refusal) (rows : List (List ℕ)) (coefs : List ℤ) → RowsGive (given (record { kind = 0; terms = term_of t ∷ [] })) w rows coefs
        → RowsGive (constant_form k) w rows coefs
    constant_one w rows coefs = alone_as 0 t (alone k) m (constant_form k) w rows coefs (constant_given (alone k ∷ []) one)

-- a constant is read back as it is
pub constant-back : (k : ℤ) (w : Std.Result Worked Refusal) (rows : List (List ℕ)) (coefs : List ℤ) → SFits w64 k → RowsGive (constant_form (back k)) w rows coefs
    → RowsGive (constant_form k) w rows coefs
constant-back k w rows coefs h = subst (λ (z : ℤ). RowsGive (constant_form z) w rows coefs) (back_is h)
