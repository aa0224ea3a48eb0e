-- Trees worked with a form in rows for one letter: a leaf, and an operator whose second operand is worked last. Assumes nothing.
use Rattle.std.specs.Prelude.{List, ℕ, ◌≤◌, ℤ, length}
use Rattle.specification.specs.Results.{Result, ◌>>=◌}
use Rattle.specification.specs.Letters.{vector}
use Rattle.specification.specs.Terms.{Term, Form}
use Rattle.specification.specs.Reduction.{sum_forms, times_forms, work_with}
use Rattle.specification.specs.Insertion.{factor_tree, term_tree, leaf_with}
use Rattle.rows.specs.Rows.{form_by, FormRun}

-- the form of a letter where the vector form of m rows stands for one
abbrev pub leaf_by : (letter m : ℕ) (right : List (List ℕ)) (rights : List ℤ) → (n kind : ℕ) → Form
leaf_by letter m right rights = leaf_with letter (form_by vector m right rights)

-- the rows of a vector form, and room for a form in others
pub record Replaces (m : ℕ) (right : List (List ℕ)) (rights : List ℤ) (rows : List (List ℕ)) (coefs : List ℤ) : Type 0 where
  pub form : FormRun vector m right rights
  pub room : 48 ≤ length rows
  pub beside : 48 ≤ length coefs

-- a form times a result
abbrev pub times_result : Form → Result Form → Result Form
times_result x r = do
  y ← r
  times_forms x y

-- a form times a factor
abbrev pub times_factor : (leaf : (n kind : ℕ) → Form) (x : Form) (factor : List ℕ) → Result Form
times_factor leaf x f = times_result x (work_with leaf (factor_tree f))

-- a form plus a term
abbrev pub plus_term : (leaf : (n kind : ℕ) → Form) (x : Form) (t : Term) → Result Form
plus_term leaf x t = do
  y ← work_with leaf (term_tree t)
  sum_forms x y
