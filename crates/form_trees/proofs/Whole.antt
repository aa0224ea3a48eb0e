-- A form whole: the empty one stands, another is its first term and the others added; and forms by value. Assumes nothing.
use mathlib.Core.Path.{◌≡◌, ap, sym, subst, ◌∙◌}
use mathlib.Core.List.{List, [], ◌∷◌}
use Prim.Native.Nat.{ℕ}
use lib.IntN.{ℤ}
use Rattle.specification.specs.Results.{◌>>=◌}
use Rattle.specification.specs.Terms as S
use Rattle.specification.specs.Reduction.{work_with}
use Rattle.specification.specs.Insertion.{term_tree, leaf_with, insert_terms, insert_form}
use Rattle.theory.specs.Shape.Forms.{FormInShape}
use Rattle.theory.specs.Reduction.Standing.{plus_each, terms-worked}
use Rattle.terms.specs.declared.types.Form.{Form}
use Rattle.terms.specs.Abstraction.{form_of}
use Rattle.terms.specs.Valid.{FormValid, Gives}
use Rattle.std.specs.Prelude.{Ok, Err}
use Rattle.std.specs.Prelude as Std
use Rattle.refusal.specs.declared.Refusal.{Refusal}
use Rattle.rows.specs.declared.Worked.{Worked}
use Rattle.rows.specs.Rows.{terms_by, run_of, form_by, FormRun, HeldIn, RowsGive, FormOfRun}
use Rattle.rows.proofs.RowForms.{rows_as, held_is, held-run, outcome_refused, outcome_given}
use Rattle.leaves.proofs.Single.{none_gives}
use Rattle.replacing.specs.Replacing.{leaf_by}
use Rattle.replacing.proofs.Multiplied.{refused_on, given_on}

module _ (leaf : (n kind : ℕ) → S.Form) (kind : ℕ) where
  -- the empty form
  pub empty_stands : (n : ℕ) (old : List (List ℕ)) (olds : List ℤ) (rows : List (List ℕ)) (coefs : List ℤ) → n ≡ 0 → FormRun kind n old olds
      → RowsGive (insert_terms leaf kind (run_of n old olds)) (Ok (record { kind = kind; count = 0 })) rows coefs
  unfolding run_of terms_by insert_terms
  empty_stands n old olds rows coefs e v =
      let is : run_of n old olds ≡ [] = ap (λ (k : ℕ). run_of k old olds) e in
      rows_as _ _ _ rows coefs (ap (insert_terms leaf kind) (sym is))
      (none_gives kind rows coefs (subst (λ (ts : List S.Term). FormInShape (record { kind = kind; terms = ts })) is v.in_shape))

  -- a first term and others
  module _ (ts : List S.Term) (t : S.Term) (us : List S.Term) (is : ts ≡ t ∷ us) (rows : List (List ℕ)) (coefs : List ℤ) where
    whole_as : insert_terms leaf kind ts ≡ (work_with leaf (term_tree t) >>= λ x. plus_each leaf x us)
    unfolding insert_terms
    whole_as = ap (insert_terms leaf kind) is ∙ terms-worked leaf (term_tree t) us

    -- the first is refused
    pub first_refused : (e : Refusal) → RowsGive (work_with leaf (term_tree t)) (Err e) rows coefs → RowsGive (insert_terms leaf kind ts) (Err e) rows coefs
    first_refused e g = rows_as _ _ (Err e) rows coefs (sym whole_as) (refused_on (λ x. plus_each leaf x us) _ rows coefs e g rows coefs)

    -- the others are added
    pub others-added : (y : Worked) → RowsGive (work_with leaf (term_tree t)) (Ok y) rows coefs → (w : Std.Result Worked Refusal) (rows' : List (List ℕ)) (coefs' : List ℤ)
        → RowsGive (plus_each leaf (form_by y.kind y.count rows coefs) us) w rows' coefs'
        → RowsGive (insert_terms leaf kind ts) w rows' coefs'
    others-added y g w rows' coefs' h = rows_as _ _ w rows' coefs' (sym whole_as) (given_on (λ x. plus_each leaf x us) _ rows coefs y g w rows' coefs' h)

-- ════ forms by value

module _ (f g : Form) (valid_first : FormValid f) (valid_second : FormValid g) (is_vector : g.kind ≡ 1) (old : List (List ℕ)) (olds : List ℤ)
    (h : HeldIn f old olds) (right : List (List ℕ)) (rights : List ℤ) (k : HeldIn g right rights) where
  -- the rows of both
  pub first_run : FormRun f.kind f.count old olds
  first_run = held-run f old olds valid_first h

  pub second_run : FormRun 1 g.count right rights
  second_run = subst (λ (kind : ℕ). FormRun kind g.count right rights) is_vector (held-run g right rights valid_second k)

  -- what was worked with them is what insertion gives
  module _ (letter : ℕ) (rows : List (List ℕ)) (coefs : List ℤ) where
    inserted : (w : Std.Result Worked Refusal) → RowsGive (insert_terms (leaf_by letter g.count right rights) f.kind (run_of f.count old olds)) w rows coefs
        → RowsGive (insert_form letter (form_of g) (form_of f)) w rows coefs
    unfolding insert_form form_of
    inserted w x =
        let put : form_by 1 g.count right rights ≡ form_of g = ap (λ (kind : ℕ). form_by kind g.count right rights) (sym is_vector) ∙ held_is g right rights k in
        rows_as _ _ w rows coefs (λ i. insert_terms (leaf_with letter (put i)) f.kind (h.is i)) x

    pub insertion_refused : (e : Refusal) → RowsGive (insert_terms (leaf_by letter g.count right rights) f.kind (run_of f.count old olds)) (Err e) rows coefs
        → Gives (insert_form letter (form_of g) (form_of f)) (Err e)
    insertion_refused e x = outcome_refused _ e rows coefs (inserted (Err e) x)

    pub insertion_given : (w : Worked) → RowsGive (insert_terms (leaf_by letter g.count right rights) f.kind (run_of f.count old olds)) (Ok w) rows coefs
        → (r : Form) → FormOfRun w.kind w.count rows coefs r → Gives (insert_form letter (form_of g) (form_of f)) (Ok r)
    insertion_given w x r q = outcome_given _ w rows coefs r (inserted (Ok w) x) q
