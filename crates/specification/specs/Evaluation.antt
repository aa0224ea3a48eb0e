-- Values of forms and of expressions under an assignment, and the value call. Assumes nothing.
--
-- An assignment gives three integers a letter; a scalar letter uses the first.
use Rattle.std.specs.Prelude.{Bool, ◌&&◌, ◌||◌, List, [], ◌∷◌, ℕ, ◌+◌, ◌-◌, ◌*◌, ℤ, pos, negsuc, ◌*ℤ◌, length, get_or, ltb, leb, eqb}
use Rattle.specification.specs.Lists.{all, each}
use Rattle.specification.specs.Results.{Result, given, ◌>>=◌, ◌>>◌, require, when◌then◌else◌}
use Rattle.specification.specs.Values.{Vec, scalar_value, ◌+v◌, ◌-v◌, ◌•◌, dot, wedge, triple}
use Rattle.specification.specs.Letters.{scalar, vector, kind_of, test_table}
use Rattle.specification.specs.Terms.{Term, Form}
use Rattle.specification.specs.Records.{take_form}
use Rattle.specification.specs.Expressions.{Expr, Letter, Constant, Sum, Difference, Negation, Times, Dot, Wedge, Triple}

-- ════ forms

-- a scalar letter, a dot, a triple
unfoldable pub factor_value : (σ : ℕ → Vec) (factor : List ℕ) → ℤ
factor_value σ [] = pos 1
factor_value σ (a ∷ []) = (σ a).x
factor_value σ (a ∷ b ∷ []) = dot (σ a) (σ b)
factor_value σ (a ∷ b ∷ c ∷ f) = triple (σ a) (σ b) (σ c)

-- the product of the factors
unfoldable pub factors_value : (σ : ℕ → Vec) (factors : List (List ℕ)) → ℤ
factors_value σ [] = pos 1
factors_value σ (f ∷ fs) = factor_value σ f *ℤ factors_value σ fs

-- nothing is the scalar 1; a letter; a wedge
unfoldable pub part_value : (σ : ℕ → Vec) (part : List ℕ) → Vec
part_value σ [] = scalar_value (pos 1)
part_value σ (a ∷ []) = σ a
part_value σ (a ∷ b ∷ p) = wedge (σ a) (σ b)

-- the coefficient times the factors times the vector part
unfoldable pub term_value : (σ : ℕ → Vec) (t : Term) → Vec
term_value σ t = (t.coef *ℤ factors_value σ t.factors) • part_value σ t.part

-- the sum of the terms
unfoldable pub terms_value : (σ : ℕ → Vec) (terms : List Term) → Vec
terms_value σ [] = scalar_value (pos 0)
terms_value σ (t ∷ ts) = term_value σ t +v terms_value σ ts

-- the value of a form; "a scalar form has 0 in the last two"
unfoldable pub value : (σ : ℕ → Vec) (f : Form) → Vec
value σ f = terms_value σ f.terms

-- ════ expressions

-- the kind of an expression whose kinds fit
unfoldable pub expr_kind : Expr → ℕ
expr_kind (Letter n kind) = kind
expr_kind (Constant k) = scalar
expr_kind (Sum e f) = expr_kind e
expr_kind (Difference e f) = expr_kind e
expr_kind (Negation e) = expr_kind e
expr_kind (Times e f) = when eqb (expr_kind e) scalar then expr_kind f else expr_kind e
expr_kind (Dot e f) = scalar
expr_kind (Wedge e f) = vector
expr_kind (Triple e f g) = scalar

-- the value of an expression, by components
unfoldable pub expr_value : (σ : ℕ → Vec) (e : Expr) → Vec
expr_value σ (Letter n kind) = when eqb kind scalar then scalar_value (σ n).x else σ n
expr_value σ (Constant k) = scalar_value k
expr_value σ (Sum e f) = expr_value σ e +v expr_value σ f
expr_value σ (Difference e f) = expr_value σ e -v expr_value σ f
expr_value σ (Negation e) = negsuc 0 • expr_value σ e
expr_value σ (Times e f) =
    when eqb (expr_kind e) scalar then (expr_value σ e).x • expr_value σ f else (expr_value σ f).x • expr_value σ e
expr_value σ (Dot e f) = scalar_value (dot (expr_value σ e) (expr_value σ f))
expr_value σ (Wedge e f) = wedge (expr_value σ e) (expr_value σ f)
expr_value σ (Triple e f g) = scalar_value (triple (expr_value σ e) (expr_value σ f) (expr_value σ g))

-- ════ assignments

-- a signed byte
unfoldable pub signed_byte : ℕ → ℤ
signed_byte b = when ltb b 128 then pos b else negsuc (255 - b)

-- "signed bytes from −6 to 6"
unfoldable pub six_or_less : ℕ → Bool
six_or_less b = leb b 6 || leb 250 b

-- a scalar letter's second and third number are 0
unfoldable pub rest_is_zero : (table s : List ℕ) (n : ℕ) → Bool
rest_is_zero table s n =
    eqb (kind_of table n) vector || (eqb (get_or s (3 * n + 1) 0) 0 && eqb (get_or s (3 * n + 2) 0) 0)

-- 3 bytes a letter, from −6 to 6, a scalar letter's second and third 0
unfoldable pub good_assignment : (table s : List ℕ) → Bool
good_assignment table s = eqb (length s) (3 * length table) && all six_or_less s && each (length table) (rest_is_zero table s)

-- the assignment that bytes give
unfoldable pub assignment : (s : List ℕ) (n : ℕ) → Vec
assignment s n = record {
  x = signed_byte (get_or s (3 * n) 0);
  y = signed_byte (get_or s (3 * n + 1) 0);
  z = signed_byte (get_or s (3 * n + 2) 0);
}

-- ════ the call

-- three integers, or the number; no memory is lent
unfoldable pub value_call : (table form s : List ℕ) → Result Vec
value_call table form s = do
  test_table table
  f ← take_form table form
  require (good_assignment table s) 12
  given (value (assignment s) f)
