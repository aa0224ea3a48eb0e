-- Insertion (document 02, K1): a vector form put in for a vector letter of a form. Assumes nothing.
use Rattle.std.specs.Prelude.{◌&&◌, List, [], ◌∷◌, ℕ, pos, eqb}
use Rattle.specification.specs.Results.{Result, given, ◌>>=◌, ◌>>◌, require, when◌then◌else◌}
use Rattle.specification.specs.Values.{Vec}
use Rattle.specification.specs.Letters.{scalar, vector, test_letter}
use Rattle.specification.specs.Terms.{Term, Form}
use Rattle.specification.specs.Records.{answer_form, form_tested, take_both}
use Rattle.specification.specs.Expressions.{Expr, Letter, Constant, Sum, Times, Dot, Wedge, Triple}
use Rattle.specification.specs.Reduction.{letter_form, work_with}

-- ════ the tree of a form

-- a scalar letter, a dot or a triple; no factor is without letters
unfoldable pub factor_tree : List ℕ → Expr
factor_tree [] = Constant (pos 1)
factor_tree (a ∷ []) = Letter a scalar
factor_tree (a ∷ b ∷ []) = Dot (Letter a vector) (Letter b vector)
factor_tree (a ∷ b ∷ c ∷ f) = Triple (Letter a vector) (Letter b vector) (Letter c vector)

-- "each multiplied from the left": a tree times factors "in record order"
unfoldable pub times_factors : Expr → List (List ℕ) → Expr
times_factors e [] = e
times_factors e (f ∷ fs) = times_factors (Times e (factor_tree f)) fs

-- a tree times a "vector part", where there is one
unfoldable pub times_part : Expr → List ℕ → Expr
times_part e [] = e
times_part e (a ∷ []) = Times e (Letter a vector)
times_part e (a ∷ b ∷ p) = Times e (Wedge (Letter a vector) (Letter b vector))

-- a term, "multiplied from the left as coefficient, factors in record order, vector part"
unfoldable pub term_tree : Term → Expr
term_tree t = times_part (times_factors (Constant t.coef) t.factors) t.part

-- a tree plus "terms in order", "summed left to right"
unfoldable pub plus_terms : Expr → List Term → Expr
plus_terms e [] = e
plus_terms e (t ∷ ts) = plus_terms (Sum e (term_tree t)) ts

-- ════ the letter replaced

-- the form of a letter: the inserted one for the vector letter that is replaced, else the letter itself
unfoldable pub leaf_with : (letter : ℕ) (inserted : Form) → (n kind : ℕ) → Form
leaf_with letter inserted n kind = when eqb kind vector && eqb n letter then inserted else letter_form n kind

-- "The result is worked as an expression"; the empty form has no tree and stands
unfoldable pub insert_terms : (leaf : (n kind : ℕ) → Form) (kind : ℕ) (terms : List Term) → Result Form
insert_terms leaf kind [] = given (record { kind = kind; terms = [] })
insert_terms leaf kind (t ∷ ts) = work_with leaf (plus_terms (term_tree t) ts)

-- a form with another for one of its letters
unfoldable pub insert_form : (letter : ℕ) (inserted form : Form) → Result Form
insert_form letter inserted form = insert_terms (leaf_with letter inserted) form.kind form.terms

-- "where that letter has the inserted form's value": an assignment with another value for one letter
unfoldable pub replaced : (σ : ℕ → Vec) (letter : ℕ) (v : Vec) → ℕ → Vec
replaced σ letter v n = when eqb n letter then v else σ n

-- ════ the call

-- "After both forms' own tests: 5 for a missing letter, 6 for a scalar one, 6 for a scalar form inserted"
unfoldable pub take_insertion : (table form : List ℕ) (letter : ℕ) (inserted : List ℕ) → Result (Form × Form)
take_insertion table form letter inserted = do
  (f, g) ← take_both table form inserted
  test_letter table vector letter
  require (eqb g.kind vector) 6
  given (f, g)

-- the form that insertion gives, "with the tests of working alone" at the end
unfoldable pub with_inserted : (table form : List ℕ) (letter : ℕ) (inserted : List ℕ) → Result Form
with_inserted table form letter inserted = do
  (f, g) ← take_insertion table form letter inserted
  insert_form letter g f

-- the length written, or the number; and the memory lent, afterwards
unfoldable pub insert_call : (table form : List ℕ) (letter : ℕ) (inserted out : List ℕ) → Result ℕ × List ℕ
insert_call table form letter inserted out = answer_form (form_tested table out (with_inserted table form letter inserted)) out
