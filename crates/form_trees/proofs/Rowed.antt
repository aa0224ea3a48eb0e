-- The terms of a form in rows, one after the other. Assumes nothing.
use mathlib.Core.Path.{◌≡◌, ap, sym, subst, ◌∙◌}
use mathlib.Core.List.{List, [], ◌∷◌}
use Prim.Native.Nat.{ℕ, ◌+◌, ◌≤◌, ◌<◌}
use native.Mathlib.Omega.{arith}
use lib.Dec.{T}
use lib.IntN.{ℤ, pos}
use lib.ListN.{length, get_or, drop, drop_of_length-le}
use Rattle.specification.specs.Terms.{term_in_shape}
use Rattle.specification.specs.Terms as S
use Rattle.theory.specs.Elements.{all_T}
use Rattle.terms.specs.declared.types.Term.{Term}
use Rattle.terms.specs.Abstraction.{term_of, Counted}
use Rattle.terms.specs.Valid.{TermValid}
use Rattle.terms.proofs.Arrays.{all-at}
use Rattle.rows.specs.Rows.{RowValid, term_by, run_of, SomeForm}
use Rattle.rows.proofs.Runs.{run_length, run_at}
use Rattle.rows.proofs.Runs.{run_holds}

module _ (n : ℕ) (old : List (List ℕ)) (olds : List ℤ) (s : SomeForm n old olds) where
  -- each row is valid
  pub row_at : (i : ℕ) → i < n → RowValid (get_or old i [])
  row_at i h = all-at RowValid old n i [] s.form.run.room h s.form.run.valid

  module _ (i : ℕ) (h : i < n) (z : ℤ) (e : z ≡ get_or olds i (pos 0)) (t : Term) (m : (term_of t ≡ term_by (get_or old i []) z) × Counted t) where
    row_is : term_of t ≡ term_by (get_or old i []) (get_or olds i (pos 0))
    row_is = m.0 ∙ ap (term_by (get_or old i [])) e

    -- and its term
    pub term-valid : TermValid t
    term-valid = record {
      counted = m.1;
      in_shape = subst (λ (u : S.Term). T (term_in_shape u)) (sym row_is)
          (run_holds old olds n s.form.run.room s.form.run.beside (λ (u : S.Term). T (term_in_shape u)) i h
          (all_T term_in_shape (run_of n old olds) s.form.in_shape.terms));
    }

    -- it is the first of those from its place on
    pub term_next : drop i (run_of n old olds) ≡ term_of t ∷ drop (i + 1) (run_of n old olds)
    term_next = run_at old olds n s.form.run.room s.form.run.beside i h ∙ ap (λ (u : S.Term). u ∷ drop (i + 1) (run_of n old olds)) (sym row_is)

  -- none is left
  pub terms_none : (i : ℕ) → n ≤ i → drop i (run_of n old olds) ≡ []
  terms_none i h = let l : length (run_of n old olds) ≤ i = omega (arith, run_length old olds n s.form.run.room s.form.run.beside) in
      drop_of_length-le (run_of n old olds) l
