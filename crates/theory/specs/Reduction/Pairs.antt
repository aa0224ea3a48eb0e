-- Pairs of terms: a term that stays passes the tests of letters and coefficient exactly where its pair does; and whether it stays, what the vector parts
-- make decides. Assumes nothing.
use Rattle.std.specs.Prelude.{◌≡◌, refl, Bool, ◌&&◌, ℕ, ◌+◌, ◌*◌, ◌≤◌, ℤ, pos, ◌*ℤ◌}
use Rattle.std.proofs.Common.{sym, ◌∙◌, subst, arith, length-append}
use Rattle.std.proofs.Math.Path.{ap}
use mathlib.Core.List.{List, [], ◌∷◌, ◌++◌, map, flat_map}
use Rattle.std.proofs.Math.Nat as N
use Rattle.std.proofs.Math.Dec.{T, leb, leb→le}
use Rattle.std.proofs.Math.ListN.{length}
use Rattle.std.proofs.Math.IntN.{nat_abs}
use Rattle.algebra.specs.Integers.{nat_abs_*ℤ, one_*ℤ}
use Rattle.specification.specs.Lists.{all}
use Rattle.specification.specs.Terms.{Term, times_term, exchange_sign, factors_sign, is_zero, vanishes, staying, coef_within, term_within}
use Rattle.specification.specs.Terms.{vector_letters_of, scalar_letters_of, vector_letters, scalar_letters, letters_fit}
use Rattle.specification.specs.Reduction.{times_parts, dot_parts, wedge_parts, joined_scalars, pair_terms, pair_staying}
use Rattle.theory.specs.Tests.{and_split}
use Rattle.theory.specs.Elements.{All, both_all, all_map, all_flat_map, all_T, T_all}
use Rattle.theory.specs.Gathering.Tidy.{signs-append}
use Rattle.theory.specs.Gathering.Staying.{all_staying, staying-map}
use Rattle.theory.specs.Shape.Terms.{vectors-append, scalars-append, letters-close}
use Rattle.theory.specs.Shape.Bare.{Bare}

-- the letters of both terms together are within the limits
unfoldable pub pair_letters_fit : Term × Term → Bool
pair_letters_fit p =
    leb (vector_letters p.0 + vector_letters p.1) 6 && leb (scalar_letters p.0 + scalar_letters p.1) 2

-- the product of both coefficients is within
unfoldable pub pair_coef_fits : Term × Term → Bool
pair_coef_fits p = coef_within (p.0.coef *ℤ p.1.coef)

-- ════ what two vector parts make

-- at most so many vector letters, no scalar letter, and a coefficient of 1 or −1
pub record Modest (size : ℕ) (x : Term) : Type 0 where
  pub vectors : vector_letters_of x.factors + length x.part ≤ size
  pub scalars : scalar_letters_of x.factors ≡ 0
  pub unit : nat_abs x.coef ≡ 1

-- the letters of two vector parts, or fewer
abbrev pub MakesModest : (List ℕ → List ℕ → List Term) → Type 0
MakesModest parts = (p q : List ℕ) → All (Modest (length p + length q)) (parts p q)

pub times-modest : MakesModest times_parts
unfolding times_parts vector_letters_of scalar_letters_of
times-modest p q = (record { vectors = omega (arith, length-append p q); scalars = refl; unit = refl }, tt)

pub dot-modest : MakesModest dot_parts
unfolding dot_parts vector_letters_of scalar_letters_of
dot-modest [] q = tt
dot-modest (a ∷ []) [] = tt
dot-modest (a ∷ []) (b ∷ []) = (record { vectors = omega arith; scalars = refl; unit = refl }, tt)
dot-modest (a ∷ []) (b ∷ c ∷ q) = (record { vectors = omega arith; scalars = refl; unit = refl }, tt)
dot-modest (a ∷ b ∷ p) [] = tt
dot-modest (a ∷ b ∷ p) (c ∷ []) = (record { vectors = omega arith; scalars = refl; unit = refl }, tt)
dot-modest (a ∷ b ∷ p) (c ∷ d ∷ q) =
    (record { vectors = omega arith; scalars = refl; unit = refl }, (record { vectors = omega arith; scalars = refl; unit = refl }, tt))

pub wedge-modest : MakesModest wedge_parts
unfolding wedge_parts vector_letters_of scalar_letters_of
wedge-modest [] q = tt
wedge-modest (a ∷ []) [] = tt
wedge-modest (a ∷ []) (b ∷ []) = (record { vectors = omega arith; scalars = refl; unit = refl }, tt)
wedge-modest (a ∷ []) (b ∷ c ∷ q) =
    (record { vectors = omega arith; scalars = refl; unit = refl }, (record { vectors = omega arith; scalars = refl; unit = refl }, tt))
wedge-modest (a ∷ b ∷ p) [] = tt
wedge-modest (a ∷ b ∷ p) (c ∷ []) =
    (record { vectors = omega arith; scalars = refl; unit = refl }, (record { vectors = omega arith; scalars = refl; unit = refl }, tt))
wedge-modest (a ∷ b ∷ p) (c ∷ d ∷ q) =
    (record { vectors = omega arith; scalars = refl; unit = refl }, (record { vectors = omega arith; scalars = refl; unit = refl }, tt))

-- ════ the terms of a pair

module _ (t u x : Term) (m : Modest (length t.part + length u.part) x) where
  -- the term that the pair makes of it
  abbrev made : Term
  made = times_term (joined_scalars t u) x

  made-vectors : vector_letters_of made.factors + length made.part ≡ vector_letters_of t.factors + vector_letters_of u.factors
      + (vector_letters_of x.factors + length x.part)
  unfolding times_term joined_scalars
  made-vectors = omega (arith, vectors-append (t.factors ++ u.factors) x.factors, vectors-append t.factors u.factors)

  made-scalars : scalar_letters_of made.factors ≡ scalar_letters_of t.factors + scalar_letters_of u.factors
  unfolding times_term joined_scalars
  made-scalars = omega (arith, scalars-append (t.factors ++ u.factors) x.factors, scalars-append t.factors u.factors, m.scalars)

  -- where the pair passes the test of letters, so does its term
  letters_below_lem : T (pair_letters_fit (t, u)) → T (letters_fit made)
  unfolding pair_letters_fit vector_letters scalar_letters
  letters_below_lem h =
      let w = and_split (leb (vector_letters t + vector_letters u) 6) (leb (scalar_letters t + scalar_letters u) 2) h in
      letters-close made
      (omega (arith, leb→le (vector_letters t + vector_letters u) 6 w.0, made-vectors, m.vectors))
      (omega (arith, leb→le (scalar_letters t + scalar_letters u) 2 w.1, made-scalars))

  -- with all the letters of the parts it passes exactly there
  letters_same : vector_letters_of x.factors + length x.part ≡ length t.part + length u.part → letters_fit made ≡ pair_letters_fit (t, u)
  unfolding pair_letters_fit letters_fit vector_letters scalar_letters
  letters_same e =
      let v : vector_letters_of made.factors + length made.part ≡ (vector_letters_of t.factors + length t.part) + (vector_letters_of u.factors + length u.part) =
      omega (arith, made-vectors, e) in
      λ i. leb (v i) 6 && leb (made-scalars i) 2

  -- and its coefficient is the pair's or its negative
  coef_same : term_within made ≡ pair_coef_fits (t, u)
  unfolding times_term joined_scalars term_within pair_coef_fits coef_within
  coef_same =
      let e : nat_abs ((t.coef *ℤ u.coef) *ℤ x.coef) ≡ nat_abs (t.coef *ℤ u.coef) =
      nat_abs_*ℤ (t.coef *ℤ u.coef) x.coef ∙ ap (λ (n : ℕ). nat_abs (t.coef *ℤ u.coef) * n) m.unit ∙ N.mul-one (nat_abs (t.coef *ℤ u.coef)) in
      ap (λ (n : ℕ). leb n 2147483647) e

module _ (parts : List ℕ → List ℕ → List Term) (modest : MakesModest parts) where
  -- where all pairs pass the tests, the terms that stay pass them
  each-stays : (f : Term × Term → Bool) (g : Term → Bool)
      → ((t u x : Term) → Modest (length t.part + length u.part) x → T (f (t, u)) → T (g (times_term (joined_scalars t u) x)))
      → (ps : List (Term × Term)) → T (all f ps) → T (all g (flat_map (pair_staying parts) ps))
  unfolding pair_staying pair_terms
  each-stays f g h ps k =
      T_all g (flat_map (pair_staying parts) ps)
      (all_flat_map (λ (p : Term × Term). T (f p)) (λ (x : Term). T (g x)) (pair_staying parts)
      (λ p l. all_staying (λ (x : Term). T (g x)) (pair_terms parts p)
      (all_map (Modest (length p.0.part + length p.1.part)) (λ (x : Term). T (g x)) (times_term (joined_scalars p.0 p.1)) (λ x m. h p.0 p.1 x m l)
      (parts p.0.part p.1.part) (modest p.0.part p.1.part)))
      ps (all_T f ps k))

  pub letters-stay : (ps : List (Term × Term)) → T (all pair_letters_fit ps) → T (all letters_fit (flat_map (pair_staying parts) ps))
  letters-stay = each-stays pair_letters_fit letters_fit letters_below_lem

  pub coefs-stay : (ps : List (Term × Term)) → T (all pair_coef_fits ps) → T (all term_within (flat_map (pair_staying parts) ps))
  coefs-stay = each-stays pair_coef_fits term_within (λ t u x m h. subst T (sym (coef_same t u x m)) h)

  -- where the vector parts make bare terms, the terms that stay pass exactly where the pair does
  module _ (kind : ℕ) (t u : Term) (bare : All (Bare kind (length t.part + length u.part)) (parts t.part u.part)) where
    each_same : (g : Term → Bool) (b : Bool)
        → ((x : Term) → Bare kind (length t.part + length u.part) x → Modest (length t.part + length u.part) x → g (times_term (joined_scalars t u) x) ≡ b)
        → All (λ (x : Term). g x ≡ b) (pair_staying parts (t, u))
    unfolding pair_staying pair_terms
    each_same g b h =
        all_staying (λ (x : Term). g x ≡ b) (pair_terms parts (t, u))
        (all_map (λ (x : Term). Bare kind (length t.part + length u.part) x × Modest (length t.part + length u.part) x) (λ (x : Term). g x ≡ b)
        (times_term (joined_scalars t u)) (λ x m. h x m.0 m.1) (parts t.part u.part)
        (both_all (Bare kind (length t.part + length u.part)) (Modest (length t.part + length u.part)) (parts t.part u.part) bare (modest t.part u.part)))

    pub letters-alike : All (λ (x : Term). letters_fit x ≡ pair_letters_fit (t, u)) (pair_staying parts (t, u))
    letters-alike = each_same letters_fit (pair_letters_fit (t, u)) (λ x b m. letters_same t u x m b.vectors)

    pub coefs-alike : All (λ (x : Term). term_within x ≡ pair_coef_fits (t, u)) (pair_staying parts (t, u))
    coefs-alike = each_same term_within (pair_coef_fits (t, u)) (λ x b m. coef_same t u x m)

-- ════ which terms of a pair stay

-- the vector parts decide, where no factor of the two terms vanishes
pub stays_by-parts : (parts : List ℕ → List ℕ → List Term) (t u : Term) → factors_sign t.factors ≡ pos 1 → factors_sign u.factors ≡ pos 1
    → pair_staying parts (t, u) ≡ map (times_term (joined_scalars t u)) (staying (parts t.part u.part))
unfolding pair_staying pair_terms times_term joined_scalars vanishes
stays_by-parts parts t u h k =
    staying-map (times_term (joined_scalars t u)) (λ x. ap (λ (z : ℤ). is_zero (z *ℤ exchange_sign x.part)) (sign x)) (parts t.part u.part)
  where
    sign : (x : Term) → factors_sign ((t.factors ++ u.factors) ++ x.factors) ≡ factors_sign x.factors
    sign x =
        signs-append (t.factors ++ u.factors) x.factors
        ∙ ap (λ (z : ℤ). z *ℤ factors_sign x.factors) (signs-append t.factors u.factors ∙ (λ i. h i *ℤ k i)) ∙ one_*ℤ (factors_sign x.factors)
