-- Bare terms: dots, triples and a vector part alone, as rules and products of vector parts make them. A term times a bare term keeps the limits that the letters together keep. Assumes nothing.
use Rattle.std.specs.Prelude.{◌≡◌, Bool, ◌&&◌, List, ◌++◌, ℕ, ◌+◌, ◌≤◌, T, eqb, leb, length}
use Rattle.std.proofs.Common.{arith, leb→le, eqb→eq, length-append}
use Rattle.specification.specs.Lists.{all}
use Rattle.specification.specs.Terms.{Term, term_kind, times_term, vector_letters_of, scalar_letters_of, vector_letters, scalar_letters}
use Rattle.theory.specs.Tests.{and_split}
use Rattle.theory.specs.Elements.{All, all_append, all_implies, all_T}
use Rattle.theory.specs.Order.{monomial}
use Rattle.theory.specs.Shape.Terms.{OneToThree, kind_of_part, Fits, vectors-append, scalars-append}

-- so many vector letters, no scalar letter, and a vector part of the kind
pub record Bare (kind size : ℕ) (u : Term) : Type 0 where
  pub lengths : All OneToThree u.factors
  pub part : length u.part ≤ 2
  pub vectors : vector_letters_of u.factors + length u.part ≡ size
  pub scalars : scalar_letters_of u.factors ≡ 0
  pub kind_is : kind_of_part u.part ≡ kind

-- one, two or three letters, as a test
unfoldable pub one_to_three : List ℕ → Bool
one_to_three f = leb 1 (length f) && leb (length f) 3

-- the same as one test, which computes whatever the letters are
unfoldable pub is_bare : (kind size : ℕ) → Term → Bool
is_bare kind size u =
    all one_to_three u.factors && leb (length u.part) 2 && eqb (vector_letters u) size && eqb (scalar_letters u) 0 && eqb (term_kind u) kind

factor-opens : (f : List ℕ) → T (one_to_three f) → OneToThree f
unfolding one_to_three
factor-opens f h = let w = and_split (leb 1 (length f)) (leb (length f) 3) h in (leb→le 1 (length f) w.0, leb→le (length f) 3 w.1)

bare_opens : (kind size : ℕ) (u : Term) → T (is_bare kind size u) → Bare kind size u
unfolding is_bare vector_letters scalar_letters term_kind
bare_opens kind size u h =
    let a = all one_to_three u.factors in
    let b = leb (length u.part) 2 in
    let c = eqb (vector_letters u) size in
    let d = eqb (scalar_letters u) 0 in
    let w₄ = and_split (a && b && c && d) (eqb (term_kind u) kind) h in
    let w₃ = and_split (a && b && c) d w₄.0 in
    let w₂ = and_split (a && b) c w₃.0 in
    let w₁ = and_split a b w₂.0 in
    record {
      lengths = all_implies (λ (f : List ℕ). T (one_to_three f)) OneToThree factor-opens u.factors (all_T one_to_three u.factors w₁.0);
      part = leb→le (length u.part) 2 w₁.1;
      vectors = eqb→eq (vector_letters u) size w₂.1;
      scalars = eqb→eq (scalar_letters u) 0 w₃.1;
      kind_is = eqb→eq (term_kind u) kind w₄.1;
    }

-- one name under which the test computes
unfoldable pub shapes : Unit {0}
unfolding is_bare one_to_three all vector_letters scalar_letters vector_letters_of scalar_letters_of term_kind
shapes = tt

-- computed over a list of terms
pub all_bare : (kind size : ℕ) (us : List Term) → T (all (is_bare kind size) us) → All (Bare kind size) us
all_bare kind size us h = all_implies (λ (u : Term). T (is_bare kind size u)) (Bare kind size) (bare_opens kind size) us (all_T (is_bare kind size) us h)

-- a term times a bare term: the letters together are within the limits, and the parts together are one
pub times-fits : (kind kind' size : ℕ) (t u : Term) → All OneToThree t.factors → scalar_letters_of t.factors ≤ 2
    → vector_letters_of t.factors + length t.part + size ≤ 6
    → length (t.part ++ u.part) ≤ 2 → kind_of_part (t.part ++ u.part) ≡ kind → Bare kind' size u → Fits kind (monomial (times_term t u))
unfolding times_term
times-fits kind kind' size t u lengths scalars vectors part kind_is b = record {
  lengths = all_append OneToThree t.factors u.factors lengths b.lengths;
  part = part;
  vectors = omega (arith, vectors-append t.factors u.factors, length-append t.part u.part, b.vectors, vectors);
  scalars = omega (arith, scalars-append t.factors u.factors, b.scalars, scalars);
  kind_is = kind_is;
}
