-- Vectors whose components are ring expressions, and terms as such vectors: equal normal forms give equal values. Assumes nothing.
use Rattle.std.specs.Prelude.{◌≡◌, ℕ, zero, suc, ◌+◌, ◌*◌, ◌/◌, ◌%◌, ℤ, pos, ◌*ℤ◌}
use Rattle.std.proofs.Math.Path.{refl, ap}
use mathlib.Core.List.{List, [], ◌∷◌}
use Rattle.std.proofs.Common.{arith}
use Rattle.algebra.specs.Polynomials.{nil}
use Rattle.algebra.proofs.Normaliser.{Ex, var, lit, ◌⊕◌, ◌⊖◌, ◌⊗◌, ⟦◌⟧◌, norm, solve, normalising}
use Rattle.specification.specs.Values.{Vec, scalar_value, ◌+v◌, ◌•◌, dot, wedge, triple}
use Rattle.specification.specs.Terms.{Term}
use Rattle.specification.specs.Evaluation.{factor_value, factors_value, part_value, term_value, terms_value}

-- ════ vectors of expressions

-- three expressions
pub record VectorE : Type 0 where
  pub x : Ex
  pub y : Ex
  pub z : Ex

infixl 6 ◌+e◌ ◌-e◌
infixl 7 ◌•e◌
abbrev pub ◌+e◌ : VectorE → VectorE → VectorE
a +e b = record { x = a.x ⊕ b.x; y = a.y ⊕ b.y; z = a.z ⊕ b.z }

abbrev pub ◌-e◌ : VectorE → VectorE → VectorE
a -e b = record { x = a.x ⊖ b.x; y = a.y ⊖ b.y; z = a.z ⊖ b.z }

abbrev pub ◌•e◌ : Ex → VectorE → VectorE
k •e a = record { x = k ⊗ a.x; y = k ⊗ a.y; z = k ⊗ a.z }

abbrev pub scalar_e : Ex → VectorE
scalar_e k = record { x = k; y = lit (pos 0); z = lit (pos 0) }

abbrev pub dot_e : VectorE → VectorE → Ex
dot_e a b = a.x ⊗ b.x ⊕ a.y ⊗ b.y ⊕ a.z ⊗ b.z

abbrev pub wedge_e : VectorE → VectorE → VectorE
wedge_e a b = record { x = a.y ⊗ b.z ⊖ a.z ⊗ b.y; y = a.z ⊗ b.x ⊖ a.x ⊗ b.z; z = a.x ⊗ b.y ⊖ a.y ⊗ b.x }

abbrev pub triple_e : VectorE → VectorE → VectorE → Ex
triple_e a b c = dot_e (wedge_e a b) c

-- the letter n: its variables are 3 n, 3 n + 1 and 3 n + 2
abbrev pub letter_e : ℕ → VectorE
letter_e n = record { x = var (3 * n); y = var (3 * n + 1); z = var (3 * n + 2) }

-- the letters of an equation, in the order in which its vectors are named; G is g, or h where there is no g
abbrev pub A : VectorE
A = letter_e 0

abbrev pub B : VectorE
B = letter_e 1

abbrev pub C : VectorE
C = letter_e 2

abbrev pub D : VectorE
D = letter_e 3

abbrev pub G : VectorE
G = letter_e 4

abbrev pub H : VectorE
H = letter_e 5

-- ════ their values

-- the first, second or third component
abbrev component : ℕ → Vec → ℤ
component zero v = v.x
component (suc zero) v = v.y
component (suc (suc n)) v = v.z

-- the numbers that an assignment gives the variables
abbrev pub numbers : (ℕ → Vec) → ℕ → ℤ
numbers σ n = component (n % 3) (σ (n / 3))

-- the value of a vector of expressions
abbrev pub vector_of : (ℕ → Vec) → VectorE → Vec
vector_of σ u = record { x = ⟦ u.x ⟧ numbers σ; y = ⟦ u.y ⟧ numbers σ; z = ⟦ u.z ⟧ numbers σ }

-- the letters 0, 1, .. are these vectors
abbrev pub letters : List Vec → ℕ → Vec
letters [] n = scalar_value (pos 0)
letters (v ∷ vs) zero = v
letters (v ∷ vs) (suc n) = letters vs n

-- equal normal forms, equal numbers
pub same_numbers : (e f : Ex) (σ : ℕ → Vec) → norm (e ⊖ f) ≡ nil → ⟦ e ⟧ numbers σ ≡ ⟦ f ⟧ numbers σ
same_numbers e f σ h = solve e f (numbers σ) h

-- the three differences have the normal form 0
abbrev pub SameE : VectorE → VectorE → Type 0
SameE u v = (norm (u.x ⊖ v.x) ≡ nil) × (norm (u.y ⊖ v.y) ≡ nil) × (norm (u.z ⊖ v.z) ≡ nil)

-- equal normal forms, equal vectors
pub same_vectors : (u v : VectorE) (σ : ℕ → Vec) → SameE u v → vector_of σ u ≡ vector_of σ v
same_vectors u v σ h =
    λ i. record { x = same_numbers u.x v.x σ h.0 i; y = same_numbers u.y v.y σ h.1 i; z = same_numbers u.z v.z σ h.2 i }

-- ════ terms as expressions

-- a scalar letter, a dot or a triple
abbrev factor_e : List ℕ → Ex
factor_e [] = lit (pos 1)
factor_e (a ∷ []) = (letter_e a).x
factor_e (a ∷ b ∷ []) = dot_e (letter_e a) (letter_e b)
factor_e (a ∷ b ∷ c ∷ f) = triple_e (letter_e a) (letter_e b) (letter_e c)

-- the product of factors
abbrev factors_e : List (List ℕ) → Ex
factors_e [] = lit (pos 1)
factors_e (f ∷ fs) = factor_e f ⊗ factors_e fs

-- nothing, a letter or a wedge
abbrev part_e : List ℕ → VectorE
part_e [] = scalar_e (lit (pos 1))
part_e (a ∷ []) = letter_e a
part_e (a ∷ b ∷ p) = wedge_e (letter_e a) (letter_e b)

-- a list of terms as a vector of expressions
abbrev pub terms_e : List Term → VectorE
terms_e [] = scalar_e (lit (pos 0))
terms_e (t ∷ ts) = (lit t.coef ⊗ factors_e t.factors) •e part_e t.part +e terms_e ts

-- one name under which the values of given terms, and normal forms, compute
unfoldable pub expanding : Unit {0}
unfolding terms_value term_value factors_value factor_value part_value normalising
expanding = tt

module _ (σ : ℕ → Vec) where
  -- the variables of a letter have its numbers
  letter_value : (n : ℕ) → vector_of σ (letter_e n) ≡ σ n
  letter_value n =
      let x₃ : 3 * n % 3 ≡ 0 = omega arith in
      let x₁ : 3 * n / 3 ≡ n = omega arith in
      let y₃ : (3 * n + 1) % 3 ≡ 1 = omega arith in
      let y₁ : (3 * n + 1) / 3 ≡ n = omega arith in
      let z₃ : (3 * n + 2) % 3 ≡ 2 = omega arith in
      let z₁ : (3 * n + 2) / 3 ≡ n = omega arith in
      λ i. record { x = component (x₃ i) (σ (x₁ i)); y = component (y₃ i) (σ (y₁ i)); z = component (z₃ i) (σ (z₁ i)) }

  factor-expands : (f : List ℕ) → ⟦ factor_e f ⟧ numbers σ ≡ factor_value σ f
  unfolding factor_value
  factor-expands [] = refl
  factor-expands (a ∷ []) = ap (λ (v : Vec). v.x) (letter_value a)
  factor-expands (a ∷ b ∷ []) = λ i. dot (letter_value a i) (letter_value b i)
  factor-expands (a ∷ b ∷ c ∷ f) = λ i. triple (letter_value a i) (letter_value b i) (letter_value c i)

  factors-expand : (fs : List (List ℕ)) → ⟦ factors_e fs ⟧ numbers σ ≡ factors_value σ fs
  unfolding factors_value
  factors-expand [] = refl
  factors-expand (f ∷ fs) = λ i. factor-expands f i *ℤ factors-expand fs i

  part-expands : (p : List ℕ) → vector_of σ (part_e p) ≡ part_value σ p
  unfolding part_value
  part-expands [] = refl
  part-expands (a ∷ []) = letter_value a
  part-expands (a ∷ b ∷ p) = λ i. wedge (letter_value a i) (letter_value b i)

  -- the expression of terms has their value
  pub terms-expand : (ts : List Term) → vector_of σ (terms_e ts) ≡ terms_value σ ts
  unfolding terms_value term_value
  terms-expand [] = refl
  terms-expand (t ∷ ts) = λ i. (t.coef *ℤ factors-expand t.factors i) • part-expands t.part i +v terms-expand ts i
