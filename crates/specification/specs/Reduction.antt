-- Reduction: an expression worked into a form. Assumes nothing.
use Rattle.std.specs.Prelude.{◌&&◌, ◌||◌, ℕ, ◌*◌, ℤ, ◌*ℤ◌, length, leb, eqb}
use mathlib.Core.List.{List, [], ◌∷◌, ◌++◌, map, flat_map}
use Rattle.specification.specs.Lists.{all}
use Rattle.specification.specs.Results.{Result, given, ◌>>=◌, ◌>>◌, require, when◌then◌else◌}
use Rattle.specification.specs.Letters.{scalar, vector}
use Rattle.specification.specs.Terms.{Term, Form, dot_of, triple_of, wedge_of, plus, minus, times_term, staying, negated, keep, gather}
use Rattle.specification.specs.Terms.{letters_fit, term_within, within, coef_within}
use Rattle.specification.specs.Records.{answer_form, form_tested}
use Rattle.specification.specs.Expressions.{Expr, Letter, Constant, Sum, Difference, Negation, Times, Dot, Wedge, Triple, read_expr}

-- ════ one pair of terms: what its two vector parts make

-- at most one is there, and it is kept
unfoldable pub times_parts : List ℕ → List ℕ → List Term
times_parts p q = plus [] (p ++ q) ∷ []

-- "(a∧b)·(c∧d) = (a·c)(b·d) − (a·d)(b·c); a letter dot a wedge is a triple"
unfoldable pub dot_parts : List ℕ → List ℕ → List Term
dot_parts [] q = []
dot_parts (a ∷ []) [] = []
dot_parts (a ∷ []) (b ∷ []) = plus (dot_of a b ∷ []) [] ∷ []
dot_parts (a ∷ []) (b ∷ c ∷ q) = plus (triple_of a b c ∷ []) [] ∷ []
dot_parts (a ∷ b ∷ p) [] = []
dot_parts (a ∷ b ∷ p) (c ∷ []) = plus (triple_of a b c ∷ []) [] ∷ []
dot_parts (a ∷ b ∷ p) (c ∷ d ∷ q) = plus (dot_of a c ∷ dot_of b d ∷ []) [] ∷ minus (dot_of a d ∷ dot_of b c ∷ []) [] ∷ []

-- "a∧(b∧c) = (a·c)b − (a·b)c; (a∧b)∧c = (a·c)b − (b·c)a; (a∧b)∧(c∧d) = (abd)c − (abc)d"
unfoldable pub wedge_parts : List ℕ → List ℕ → List Term
wedge_parts [] q = []
wedge_parts (a ∷ []) [] = []
wedge_parts (a ∷ []) (b ∷ []) = plus [] (wedge_of a b) ∷ []
wedge_parts (a ∷ []) (b ∷ c ∷ q) = plus (dot_of a c ∷ []) (b ∷ []) ∷ minus (dot_of a b ∷ []) (c ∷ []) ∷ []
wedge_parts (a ∷ b ∷ p) [] = []
wedge_parts (a ∷ b ∷ p) (c ∷ []) = plus (dot_of a c ∷ []) (b ∷ []) ∷ minus (dot_of b c ∷ []) (a ∷ []) ∷ []
wedge_parts (a ∷ b ∷ p) (c ∷ d ∷ q) = plus (triple_of a b d ∷ []) (c ∷ []) ∷ minus (triple_of a b c ∷ []) (d ∷ []) ∷ []

-- "scalar parts joined"
unfoldable pub joined_scalars : Term → Term → Term
joined_scalars t u = record { coef = t.coef *ℤ u.coef; factors = t.factors ++ u.factors; part = [] }

-- the terms of one pair: the scalar parts joined, times what the vector parts make
unfoldable pub pair_terms : (List ℕ → List ℕ → List Term) → Term × Term → List Term
pair_terms parts p = map (times_term (joined_scalars p.0 p.1)) (parts p.0.part p.1.part)

-- ════ the operators

-- the pairs: each left term with each right term
unfoldable pub pairs_of : List Term → List Term → List (Term × Term)
pairs_of ts us = flat_map (λ t. map (λ u. (t, u)) us) ts

-- those terms of a pair that its letters do not make vanish: "of a pair giving two terms, each is judged alone"
unfoldable pub pair_staying : (List ℕ → List ℕ → List Term) → Term × Term → List Term
pair_staying parts p = staying (pair_terms parts p)

-- the terms of all pairs that stay
unfoldable pub product_terms : (parts : List ℕ → List ℕ → List Term) (ts us : List Term) → List Term
product_terms parts ts us = flat_map (pair_staying parts) (pairs_of ts us)

-- 7 of all pairs; what vanishes is "tested neither for letters nor coefficient" (document 02, K4): 8 of the terms that stay, then 9 of them; then gathered
unfoldable pub product : (kind : ℕ) (parts : List ℕ → List ℕ → List Term) (f g : Form) → Result Form
product kind parts f g = do
  require (leb (length f.terms * length g.terms) 48) 7
  require (all letters_fit (product_terms parts f.terms g.terms)) 8
  require (all term_within (product_terms parts f.terms g.terms)) 9
  within kind (gather (product_terms parts f.terms g.terms))

-- "negation only turns the signs"
unfoldable pub negate_form : Form → Form
negate_form f = record { kind = f.kind; terms = map negated f.terms }

-- the sum of two forms of one kind
unfoldable pub sum_forms : Form → Form → Result Form
sum_forms f g = do
  require (eqb f.kind g.kind) 6
  within f.kind (gather (f.terms ++ g.terms))

-- "at least one operand scalar"
unfoldable pub times_forms : Form → Form → Result Form
times_forms f g = do
  require (eqb f.kind scalar || eqb g.kind scalar) 6
  product (when eqb f.kind scalar then g.kind else f.kind) times_parts f g

-- the dot of two vectors
unfoldable pub dot_forms : Form → Form → Result Form
dot_forms f g = do
  require (eqb f.kind vector && eqb g.kind vector) 6
  product scalar dot_parts f g

-- the wedge of two vectors
unfoldable pub wedge_forms : Form → Form → Result Form
wedge_forms f g = do
  require (eqb f.kind vector && eqb g.kind vector) 6
  product vector wedge_parts f g

-- "three operands, their kinds tested first, then worked as a wedge and a dot"
unfoldable pub triple_forms : Form → Form → Form → Result Form
triple_forms f g h = do
  require (eqb f.kind vector && eqb g.kind vector && eqb h.kind vector) 6
  fg ← wedge_forms f g
  dot_forms fg h

-- ════ working a tree

-- a letter alone: a scalar factor, or a vector part
unfoldable pub letter_form : (n kind : ℕ) → Form
letter_form n kind =
    when eqb kind scalar then record { kind = scalar; terms = plus ((n ∷ []) ∷ []) [] ∷ [] }
    else record { kind = vector; terms = plus [] (n ∷ []) ∷ [] }

-- a constant: 9 where it is beyond, nothing where it is 0
unfoldable pub constant_form : ℤ → Result Form
constant_form k = do
  require (coef_within k) 9
  given (record { kind = scalar; terms = keep (record { coef = k; factors = []; part = [] }) [] })

-- "Operands left to right, then the operator"; `leaf` gives the form of a letter by its number and kind
unfoldable pub work_with : (leaf : (n kind : ℕ) → Form) → Expr → Result Form
work_with leaf (Letter n kind) = given (leaf n kind)
work_with leaf (Constant k) = constant_form k
work_with leaf (Sum e f) = do
  x ← work_with leaf e
  y ← work_with leaf f
  sum_forms x y
work_with leaf (Difference e f) = do
  x ← work_with leaf e
  y ← work_with leaf f
  sum_forms x (negate_form y)
work_with leaf (Negation e) = do
  x ← work_with leaf e
  given (negate_form x)
work_with leaf (Times e f) = do
  x ← work_with leaf e
  y ← work_with leaf f
  times_forms x y
work_with leaf (Dot e f) = do
  x ← work_with leaf e
  y ← work_with leaf f
  dot_forms x y
work_with leaf (Wedge e f) = do
  x ← work_with leaf e
  y ← work_with leaf f
  wedge_forms x y
work_with leaf (Triple e f g) = do
  x ← work_with leaf e
  y ← work_with leaf f
  z ← work_with leaf g
  triple_forms x y z

-- reduction: each letter stands for itself
abbrev pub work : Expr → Result Form
work = work_with letter_form

-- ════ the call

-- the form of an expression: reading precedes working
unfoldable pub reduced : (table expr : List ℕ) → Result Form
reduced table expr = do
  tree ← read_expr table expr
  work tree

-- the length written, or the number; and the memory lent, afterwards
unfoldable pub reduce_call : (table expr out : List ℕ) → Result ℕ × List ℕ
reduce_call table expr out = answer_form (form_tested table out (reduced table expr)) out
