-- Terms in lent memory: a row of eight numbers for each, and its coefficient beside it. Assumes nothing.
use Rattle.std.specs.Prelude.{◌≡◌, List, [], ◌∷◌, map, ℕ, ◌/◌, ◌%◌, ◌<◌, ◌≤◌, ℤ, nat_abs, length, take, drop, get_or, IfOk}
use Rattle.std.specs.Prelude as Std
use Rattle.specification.specs.Results.{Result}
use Rattle.specification.specs.Terms as S
use Rattle.theory.specs.Elements.{All}
use Rattle.theory.specs.Gathering.Coefficients.{Ascending}
use Rattle.theory.specs.Shape.Forms.{FormInShape}
use Rattle.terms.specs.declared.types.Term.{Term}
use Rattle.terms.specs.declared.types.Form.{Form}
use Rattle.terms.specs.Numbers.{letters_of, part_letters_of}
use Rattle.refusal.specs.declared.Refusal.{Refusal}
use Rattle.refusal.specs.Tests.{answer_of}
use Rattle.terms.specs.Abstraction.{term_of, form_of, Counted}
use Rattle.terms.specs.Valid.{Gives}
use Rattle.rows.specs.declared.Worked.{Worked}

-- ════ a row

-- the first number of a row: the vector part's number times 8, and the count of factors
unfoldable pub head_of : List ℕ → ℕ
head_of r = get_or r 0 0

-- the numbers of its factors
unfoldable pub factors_of : List ℕ → List ℕ
factors_of r = take (head_of r % 8) (drop 1 r)

-- the term of a row and a coefficient
unfoldable pub term_by : List ℕ → ℤ → S.Term
term_by r c = record { coef = c; factors = map letters_of (factors_of r); part = part_letters_of (head_of r / 8) }

-- the letters of a row are bytes
pub record RowValid (r : List ℕ) : Type 0 where
  pub places : length r ≡ 8
  pub part : head_of r / 8 < 65793
  pub small : All (λ (k : ℕ). k < 16843008) (factors_of r)

-- the row of a term
pub record RowOf (t : Term) (r : List ℕ) : Type 0 where
  pub is : term_by r t.coef ≡ term_of t
  pub valid : RowValid r

-- ════ a run of rows

-- the terms of rows and their coefficients
unfoldable pub terms_by : List (List ℕ) → List ℤ → List S.Term
terms_by [] cs = []
terms_by (r ∷ rs) [] = []
terms_by (r ∷ rs) (c ∷ cs) = term_by r c ∷ terms_by rs cs

-- the terms of the first n
unfoldable pub run_of : (n : ℕ) (rows : List (List ℕ)) (coefs : List ℤ) → List S.Term
run_of n rows coefs = terms_by (take n rows) (take n coefs)

-- the first n rows are a run: strictly ascending terms
pub record Run (n : ℕ) (rows : List (List ℕ)) (coefs : List ℤ) : Type 0 where
  pub room : n ≤ length rows
  pub beside : n ≤ length coefs
  pub valid : All RowValid (take n rows)
  pub ascending : Ascending (run_of n rows coefs)

-- the first n coefficients are no larger than b
unfoldable pub Light : (b n : ℕ) (coefs : List ℤ) → Type 0
Light b n coefs = All (λ (c : ℤ). nat_abs c ≤ b) (take n coefs)

-- the form of a kind with the terms of n rows
abbrev pub form_by : (kind n : ℕ) (rows : List (List ℕ)) (coefs : List ℤ) → S.Form
form_by kind n rows coefs = record { kind = kind; terms = run_of n rows coefs }

-- n rows that stand for a form in shape
pub record FormRun (kind n : ℕ) (rows : List (List ℕ)) (coefs : List ℤ) : Type 0 where
  pub run : Run n rows coefs
  pub light : Light 2147483647 n coefs
  pub few : n ≤ 48
  pub in_shape : FormInShape (form_by kind n rows coefs)

-- n rows stand for a form in shape, of one kind or the other
pub record SomeForm (n : ℕ) (rows : List (List ℕ)) (coefs : List ℤ) : Type 0 where
  pub kind : ℕ
  pub form : FormRun kind n rows coefs

-- ════ forms in rows

-- the terms of a form
pub record HeldIn (f : Form) (rows : List (List ℕ)) (coefs : List ℤ) : Type 0 where
  pub is : run_of f.count rows coefs ≡ (form_of f).terms
  pub run : Run f.count rows coefs
  pub light : Light 2147483647 f.count coefs

-- the first n rows are those of other arrays
pub record Copied (n : ℕ) (from : List (List ℕ)) (froms : List ℤ) (rows : List (List ℕ)) (coefs : List ℤ) : Type 0 where
  pub rows_are : take n rows ≡ take n from
  pub coefs_are : take n coefs ≡ take n froms

-- a form of a kind with the terms of n rows
pub record FormOfRun (kind n : ℕ) (rows : List (List ℕ)) (coefs : List ℤ) (f : Form) : Type 0 where
  pub is : form_of f ≡ form_by kind n rows coefs
  pub count_is : f.count ≡ n
  pub few : f.count ≤ 48
  pub counted : All Counted (take f.count f.terms)

-- what working gives in lent rows: its refusal, or a form in shape
pub record RowsGive (x : Result S.Form) (r : Std.Result Worked Refusal) (rows : List (List ℕ)) (coefs : List ℤ) : Type 0 where
  pub is : answer_of (λ w. form_by w.kind w.count rows coefs) r ≡ x
  pub form : IfOk r (λ w. FormRun w.kind w.count rows coefs)

-- as a form by value: its refusal, or the form, a valid one
pub record OutcomeOf (w : Std.Result Worked Refusal) (rows : List (List ℕ)) (coefs : List ℤ) (r : Std.Result Form Refusal) : Type 0 where
  pub is : (x : Result S.Form) → RowsGive x w rows coefs → Gives x r
