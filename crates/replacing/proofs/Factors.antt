-- Letters, factors and vector parts worked with a form in rows for one letter. Assumes nothing.
use mathlib.Core.Path.{◌≡◌, refl, ap, sym, subst, ◌∙◌}
use mathlib.Core.Bool.{Bool, true, false}
use mathlib.Core.List.{List, [], ◌∷◌}
use Prim.Native.Nat.{ℕ, ◌≤◌}
use native.Mathlib.Omega.{arith}
use lib.Dec.{T, eqb}
use lib.IntN.{ℤ}
use lib.ListN.{length}
use borrow.Author.Tests.{eq-eqb, ne_eqb, eqb-true, eqb-false}
use Rattle.specification.specs.Results.{Result, given}
use Rattle.specification.specs.Lists.{all, ascend}
use Rattle.specification.specs.Terms as S
use Rattle.specification.specs.Terms.{plus, factor_in_shape}
use Rattle.specification.specs.Reduction.{dot_forms, wedge_forms, triple_forms, letter_form, work_with}
use Rattle.specification.specs.Insertion.{factor_tree, leaf_with}
use Rattle.theory.specs.Tests.{given_same}
use Rattle.theory.specs.Shape.Forms.{FormInShape}
use Rattle.theory.specs.Reduction.Standing.{factor_has, part_with, one_term, one_factor_in_shape, factor-stands}
use Rattle.terms.specs.declared.factors.Factor.{Factor}
use Rattle.terms.specs.declared.factors.Factor.TheVariants.{Dot, Triple}
use Rattle.terms.specs.declared.types.Part.{Part}
use Rattle.terms.specs.declared.types.Part.TheVariants.{Nothing, Letter, Wedge}
use Rattle.terms.specs.declared.types.Term.{Term}
use Rattle.terms.specs.Numbers.{letters_of}
use Rattle.terms.specs.Abstraction.{factor_of, part_of, term_of}
use Rattle.terms.proofs.Letters.{dot_is, triple_is, nothing_is, letter_is, wedge_is}
use Rattle.std.specs.Prelude.{Ok}
use Rattle.std.specs.Prelude as Std
use Rattle.refusal.specs.declared.Refusal.{Refusal}
use Rattle.rows.specs.declared.Worked.{Worked}
use Rattle.rows.specs.Rows.{form_by, Copied, FormRun, RowsGive}
use Rattle.rows.proofs.RowForms.{rows_as, run-copied, form-copied}
use Rattle.leaves.specs.Leaves.{TermAs}
use Rattle.leaves.proofs.Single.{none_gives}

-- ════ what is given stands in the rows

module _ (f : S.Form) (w : Worked) (rows : List (List ℕ)) (coefs : List ℤ) (g : RowsGive (given f) (Ok w) rows coefs) where
  -- it is the form that stands in the rows
  pub given_is : form_by w.kind w.count rows coefs ≡ f
  given_is = given_same g.is

module _ (x letter : ℕ) (inserted : S.Form) (w : Std.Result Worked Refusal) (rows : List (List ℕ)) (coefs : List ℤ) where
  -- another letter is itself
  pub leaf-other : (x ≡ letter → ⊥) → RowsGive (given (letter_form x 1)) w rows coefs → RowsGive (given (leaf_with letter inserted x 1)) w rows coefs
  unfolding leaf_with
  leaf-other h = rows_as _ _ w rows coefs (rw (ne_eqb x letter h))

  -- for the letter stands the form
  pub leaf_same : x ≡ letter → RowsGive (given inserted) w rows coefs → RowsGive (given (leaf_with letter inserted x 1)) w rows coefs
  unfolding leaf_with
  leaf_same e = rows_as _ _ w rows coefs (rw (eq-eqb x letter e))

-- a form that is copied
pub copied_gives : (kind m : ℕ) (right : List (List ℕ)) (rights : List ℤ) (rows : List (List ℕ)) (coefs : List ℤ) → FormRun kind m right rights
    → m ≤ length rows → m ≤ length coefs → Copied m right rights rows coefs
    → RowsGive (given (form_by kind m right rights)) (Ok (record { kind = kind; count = m })) rows coefs
copied_gives kind m right rights rows coefs v hr hc c = record {
  is = ap (λ (ts : List S.Term). given (record { kind = kind; terms = ts })) (run-copied m right rights rows coefs c);
  form = form-copied m right rights rows coefs c kind hr hc v;
}

-- ════ operators on letters

module _ (f g : S.Form) (a b : Worked) (rows more : List (List ℕ)) (coefs beside : List ℤ)
    (p : RowsGive (given f) (Ok a) rows coefs) (q : RowsGive (given g) (Ok b) more beside) where
  -- an operator on two given forms
  pub two_given : (op : S.Form → S.Form → Result S.Form) (w : Std.Result Worked Refusal) (rows' : List (List ℕ)) (coefs' : List ℤ)
      → RowsGive (op (form_by a.kind a.count rows coefs) (form_by b.kind b.count more beside)) w rows' coefs'
      → RowsGive (op f g) w rows' coefs'
  two_given op w rows' coefs' = rows_as _ _ w rows' coefs' (λ j. op (given_is f a rows coefs p j) (given_is g b more beside q j))

  -- and a third
  pub three_given : (h : S.Form) (d : Worked) (third : List (List ℕ)) (thirds : List ℤ) → RowsGive (given h) (Ok d) third thirds
      → (op : S.Form → S.Form → S.Form → Result S.Form) (w : Std.Result Worked Refusal) (rows' : List (List ℕ)) (coefs' : List ℤ)
      → RowsGive (op (form_by a.kind a.count rows coefs) (form_by b.kind b.count more beside) (form_by d.kind d.count third thirds)) w
      rows' coefs'
      → RowsGive (op f g h) w rows' coefs'
  three_given h d third thirds r op w rows' coefs' =
      rows_as _ _ w rows' coefs' (λ j. op (given_is f a rows coefs p j) (given_is g b more beside q j) (given_is h d third thirds r j))

-- ════ a factor

module _ (k : ℕ) (shape : T (factor_in_shape (letters_of k))) (t : Term) (m : TermAs (plus (letters_of k ∷ []) []) t) where
  -- alone it is a form in shape
  pub factor-alone : FormInShape (record { kind = 0; terms = term_of t ∷ [] })
  factor-alone = subst (λ (u : S.Term). FormInShape (one_term 0 u)) (sym m.is) (one_factor_in_shape (letters_of k) shape)

  -- without the letter it is itself
  pub factor-without : (letter : ℕ) (inserted : S.Form) (w : Std.Result Worked Refusal) (rows : List (List ℕ)) (coefs : List ℤ) → factor_has letter (letters_of k) ≡ false
      → RowsGive (given (record { kind = 0; terms = term_of t ∷ [] })) w rows coefs
      → RowsGive (work_with (leaf_with letter inserted) (factor_tree (letters_of k))) w rows coefs
  factor-without letter inserted w rows coefs e =
      rows_as _ _ w rows coefs
      (ap (λ (u : S.Term). given (one_term 0 u)) m.is ∙ sym (factor-stands letter inserted (letters_of k) shape e))

module _ (k : ℕ) (f : Factor) (e : factor_of f ≡ letters_of k) (letter : ℕ) (inserted : S.Form) (w : Std.Result Worked Refusal) (rows : List (List ℕ))
    (coefs : List ℤ) where
  by-letters : (l : List ℕ) (r : Result S.Form) → letters_of k ≡ l → work_with (leaf_with letter inserted) (factor_tree l) ≡ r → RowsGive r w rows coefs
      → RowsGive (work_with (leaf_with letter inserted) (factor_tree (letters_of k))) w rows coefs
  by-letters l r h g = rows_as r _ w rows coefs (sym (ap (λ (l : List ℕ). work_with (leaf_with letter inserted) (factor_tree l)) h ∙ g))

  -- a dot of letters
  pub factor-dot : (x y : ℕ) → f ≡ Dot x y → RowsGive (dot_forms (leaf_with letter inserted x 1) (leaf_with letter inserted y 1)) w rows coefs
      → RowsGive (work_with (leaf_with letter inserted) (factor_tree (letters_of k))) w rows coefs
  unfolding work_with factor_tree
  factor-dot x y h = by-letters (x ∷ y ∷ []) _ (dot_is k f e x y h) refl

  -- a triple of letters
  pub factor-triple : (x y z : ℕ) → f ≡ Triple x y z
      → RowsGive (triple_forms (leaf_with letter inserted x 1) (leaf_with letter inserted y 1) (leaf_with letter inserted z 1)) w rows coefs
      → RowsGive (work_with (leaf_with letter inserted) (factor_tree (letters_of k))) w rows coefs
  unfolding work_with factor_tree
  factor-triple x y z h = by-letters (x ∷ y ∷ z ∷ []) _ (triple_is k f e x y z h) refl

-- ════ a vector part

-- the empty form is in shape
empty-shape : FormInShape (record { kind = 0; terms = [] })
unfolding all ascend
empty-shape = record { kind = omega arith; count = omega arith; terms = tt; parts = tt; ascending = tt }

module _ (leaf : (n kind : ℕ) → S.Form) (p : Part) (rows : List (List ℕ)) (coefs : List ℤ) where
  -- none is the empty scalar form
  pub part_none : p ≡ Nothing → RowsGive (part_with leaf (part_of p)) (Ok (record { kind = 0; count = 0 })) rows coefs
  unfolding part_with
  part_none h = rows_as _ _ _ rows coefs (sym (ap (part_with leaf) (nothing_is p h))) (none_gives 0 rows coefs empty-shape)

  -- a letter
  pub part-letter : (x : ℕ) (w : Std.Result Worked Refusal) → p ≡ Letter x → RowsGive (given (leaf x 1)) w rows coefs → RowsGive (part_with leaf (part_of p)) w rows coefs
  unfolding part_with
  part-letter x w h = rows_as _ _ w rows coefs (sym (ap (part_with leaf) (letter_is p x h)))

  -- a wedge of letters
  pub part-wedge : (x y : ℕ) (w : Std.Result Worked Refusal) → p ≡ Wedge x y → RowsGive (wedge_forms (leaf x 1) (leaf y 1)) w rows coefs
      → RowsGive (part_with leaf (part_of p)) w rows coefs
  unfolding part_with
  part-wedge x y w h = rows_as _ _ w rows coefs (sym (ap (part_with leaf) (wedge_is p x y h)))
