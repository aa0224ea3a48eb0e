-- The operands of a product, its limits, and the largest of what the terms of a list have. Assumes nothing.
use Rattle.std.specs.Prelude.{◌≡◌, ◌⊎◌, ℕ, ◌*◌, ◌≤◌, ℤ, nat_abs, T, ltb, leb, length}
use mathlib.Core.List.{List, [], ◌∷◌, map, flat_map}
use Rattle.specification.specs.Lists.{all}
use Rattle.specification.specs.Results.{Test, ◌>>◌, require, when◌then◌else◌}
use Rattle.specification.specs.Letters.{scalar, vector}
use Rattle.specification.specs.Terms.{Term, term_within, vector_letters, scalar_letters, letters_fit, term_in_shape}
use Rattle.specification.specs.Reduction.{pair_staying, product_terms}
use Rattle.theory.specs.Order.{monomial}
use Rattle.theory.specs.Shape.Terms.{Fits}
use Rattle.rows.specs.Rows.{FormRun}
use Rattle.pairing.specs.declared.parts.Operation.{Operation}
use Rattle.pairing.specs.declared.parts.Operation.TheVariants.{Times, Dot, Wedge}
use Rattle.pairing.specs.Parts.{parts_of}
use Rattle.pair_limits.specs.declared.Most.{Most}
use Rattle.pair_limits.specs.declared.Fit.{Fit}

-- ════ operands

-- the kinds of an operation's operands and of its result
unfoldable pub Kinds : (op : Operation) (kind a b : ℕ) → Type 0
Kinds Times kind a b = ((a ≡ scalar) × (b ≡ kind)) ⊎ ((b ≡ scalar) × (a ≡ kind))
Kinds Dot kind a b = (a ≡ vector) × (b ≡ vector) × (kind ≡ scalar)
Kinds Wedge kind a b = (a ≡ vector) × (b ≡ vector) × (kind ≡ vector)

-- two forms in rows whose kinds an operation takes
pub record Operands (op : Operation) (kind n : ℕ) (rows : List (List ℕ)) (coefs : List ℤ) (m : ℕ) (right : List (List ℕ)) (rights : List ℤ) : Type 0 where
  pub left_kind : ℕ
  pub right_kind : ℕ
  pub kinds : Kinds op kind left_kind right_kind
  pub left_form : FormRun left_kind n rows coefs
  pub right_form : FormRun right_kind m right rights

-- whatever the kind of the result
pub record SomeOperands (op : Operation) (n : ℕ) (rows : List (List ℕ)) (coefs : List ℤ) (m : ℕ) (right : List (List ℕ)) (rights : List ℤ) : Type 0 where
  pub kind : ℕ
  pub operands : Operands op kind n rows coefs m right rights

-- a term of each of two such forms
pub record Paired (op : Operation) (t u : Term) : Type 0 where
  pub kind : ℕ
  pub left_kind : ℕ
  pub right_kind : ℕ
  pub kinds : Kinds op kind left_kind right_kind
  pub left_shape : T (term_in_shape t)
  pub right_shape : T (term_in_shape u)
  pub left_fits : Fits left_kind (monomial t)
  pub right_fits : Fits right_kind (monomial u)

-- the terms that stay of a left term with each right one
unfoldable pub row_terms : Operation → Term → List Term → List Term
row_terms op t us = flat_map (pair_staying (parts_of op)) (map (λ u. (t, u)) us)

-- ════ the tests

-- 7 of the pairs, 8 and 9 of the terms that stay
unfoldable pub test_pairs : Operation → (ts us : List Term) → Test
test_pairs op ts us = do
  require (leb (length ts * length us) 48) 7
  require (all letters_fit (product_terms (parts_of op) ts us)) 8
  require (all term_within (product_terms (parts_of op) ts us)) 9

-- whether the letters of all terms are within the limits, and their coefficients
pub record FitOf (ts : List Term) (r : Fit) : Type 0 where
  pub letters : r.letters ≡ all letters_fit ts
  pub coefs : r.coefs ≡ all term_within ts

-- ════ the largest

-- the larger of two numbers
unfoldable pub larger : ℕ → ℕ → ℕ
larger a b = when ltb a b then b else a

-- the size of a coefficient
unfoldable pub coef_size : Term → ℕ
coef_size t = nat_abs t.coef

-- the largest number that a term of a list has
unfoldable pub largest : (Term → ℕ) → List Term → ℕ
largest m [] = 0
largest m (t ∷ ts) = larger (m t) (largest m ts)

-- one term more
pub record MostWith (t : Term) (m r : Most) : Type 0 where
  pub vectors : r.vectors ≡ larger (vector_letters t) m.vectors
  pub scalars : r.scalars ≡ larger (scalar_letters t) m.scalars
  pub size : r.size ≡ larger (coef_size t) m.size

-- the largest numbers of a list
pub record MostOf (ts : List Term) (r : Most) : Type 0 where
  pub vectors : r.vectors ≡ largest vector_letters ts
  pub scalars : r.scalars ≡ largest scalar_letters ts
  pub size : r.size ≡ largest coef_size ts

-- such numbers of terms in shape
pub record MostSmall (r : Most) : Type 0 where
  pub vectors : r.vectors ≤ 6
  pub scalars : r.scalars ≤ 2
  pub size : r.size ≤ 2147483647
