-- The shape of factors by their numbers, and the letters that they use, one turn at a time. Assumes nothing.
use mathlib.Core.Path.{◌≡◌, refl, ap, sym, ◌∙◌}
use mathlib.Core.Bool.{Bool, true, false, not, ◌&&◌}
use mathlib.Core.List.{List, [], ◌∷◌, map}
use Prim.Native.Nat.{ℕ, zero, ◌+◌, ◌-◌, ◌*◌, ◌/◌, ◌%◌, ◌<◌, ◌≤◌}
use native.Mathlib.Omega.{arith}
use lib.Dec.{ltb, leb, eqb}
use lib.ListN.{length, get_or, take, drop}
use borrow.Author.Tests.{lt-ltb, le-ltb, le-leb, lt-leb, ltb-true, ltb-false, eqb-true, eqb-false, eq-eqb, ne_eqb}
use Rattle.specification.specs.Lists.{order, is_not_more, all, ascend}
use Rattle.specification.specs.Terms.{is_zero, coef_within, factor_in_shape, factor_not_after, part_in_shape, vector_letters_of, scalar_letters_of, letters_fit, term_in_shape}
use Rattle.specification.specs.Terms as S
use Rattle.theory.specs.Order.{nat-laws, compares-less, compares-equal, compares_more}
use Rattle.terms.specs.declared.types.Part.{Part}
use Rattle.terms.specs.declared.types.Part.TheVariants.{Nothing, Letter, Wedge}
use Rattle.terms.specs.declared.shape.Used.{Used}
use Rattle.terms.specs.Numbers.{letters_of}
use Rattle.terms.specs.Abstraction.{part_of}
use Rattle.terms.specs.Used.{UsedBy}
use Rattle.terms.proofs.Numbers.{one_is, two_is, three_is, number-order}
use Rattle.terms.proofs.Letters.{letters-long}
use Rattle.terms.proofs.Arrays.{rest_at, nothing_left_lem}

-- ════ one factor

pub scalar-in_shape : (k : ℕ) → k < 256 → true ≡ factor_in_shape (letters_of k)
unfolding factor_in_shape
scalar-in_shape k h = rw (one_is k h)

pub dot-in_shape : (k : ℕ) → 256 ≤ k → k < 65792 → leb ((k - 256) / 256) ((k - 256) % 256) ≡ factor_in_shape (letters_of k)
unfolding factor_in_shape
dot-in_shape k h g = rw (two_is k h g)

module _ (k : ℕ) (h : 65792 ≤ k) where
  pub triple-in_shape : (k - 65792) / 65536 < (k - 65792) / 256 % 256 → ltb ((k - 65792) / 256 % 256) ((k - 65792) % 256) ≡ factor_in_shape (letters_of k)
  unfolding factor_in_shape
  triple-in_shape g = rw (three_is k h, lt-ltb _ _ g)

  pub triple-not_in-shape : (k - 65792) / 256 % 256 ≤ (k - 65792) / 65536 → false ≡ factor_in_shape (letters_of k)
  unfolding factor_in_shape
  triple-not_in-shape g = rw (three_is k h, le-ltb _ _ g)

-- ════ factors

-- behind a factor, those that come are not before it, and each is in shape
unfoldable pub shape_from : (last : ℕ) → List ℕ → Bool
shape_from last [] = true
shape_from last (k ∷ ks) = not (ltb k last) && (factor_in_shape (letters_of k) && shape_from k ks)

not-before : (a b : ℕ) → factor_not_after (letters_of a) (letters_of b) ≡ not (ltb b a)
not-before a b = ap is_not_more (number-order a b) ∙ go (ltb b a) refl
  where
    go : (t : Bool) → ltb b a ≡ t → is_not_more (order a b) ≡ not (ltb b a)
    go true e = rw (e, compares_more nat-laws a b (ltb-true b a e))
    go false e = rw e (at_most (ltb a b) refl (ltb-false b a e))
      where
        at_most : (u : Bool) → ltb a b ≡ u → a ≤ b → is_not_more (order a b) ≡ true
        at_most true f l = ap is_not_more (compares-less nat-laws a b (ltb-true a b f))
        at_most false f l = ap is_not_more (compares-equal nat-laws a b (omega (arith, l, ltb-false a b f)))

shuffle : (f p n q : Bool) → ((f && p) && (n && q)) ≡ (n && (f && (p && q)))
shuffle true true n q = refl
shuffle true false true q = refl
shuffle true false false q = refl
shuffle false p true q = refl
shuffle false p false q = refl

from : (last : ℕ) (l : List ℕ) → (all factor_in_shape (map letters_of l) && ascend factor_not_after (map letters_of (last ∷ l))) ≡ shape_from last l
unfolding all ascend shape_from
from last [] = refl
from last (k ∷ ks) =
    shuffle (factor_in_shape (letters_of k)) (all factor_in_shape (map letters_of ks)) (factor_not_after (letters_of last) (letters_of k)) (ascend factor_not_after (map letters_of (k ∷ ks)))
    ∙ λ i. not-before last k i && (factor_in_shape (letters_of k) && from k ks i)

-- the letters of each factor are in order, and so are the factors
pub shape_is : (l : List ℕ) → (all factor_in_shape (map letters_of l) && ascend factor_not_after (map letters_of l)) ≡ shape_from 0 l
unfolding all ascend shape_from
shape_is [] = refl
shape_is (k ∷ ks) =
    ap (λ (b : Bool). (factor_in_shape (letters_of k) && all factor_in_shape (map letters_of ks)) && (b && ascend factor_not_after (map letters_of (k ∷ ks)))) first
    ∙ from 0 (k ∷ ks)
  where
    first : true ≡ factor_not_after (letters_of 0) (letters_of k)
    first = sym (not-before 0 k ∙ ap not (le-ltb k 0 (omega arith)))

-- ════ one turn

module _ (f : List ℕ) (n i last : ℕ) (fl : n ≤ length f) (h : i < n) where
  pub shape-back : get_or f i 0 < last → shape_from last (drop i (take n f)) ≡ false
  unfolding shape_from
  shape-back g = rw (rest_at f n i 0 fl h, lt-ltb _ _ g)

  pub shape-bad : last ≤ get_or f i 0 → factor_in_shape (letters_of (get_or f i 0)) ≡ false → shape_from last (drop i (take n f)) ≡ false
  unfolding shape_from
  shape-bad g e = rw (rest_at f n i 0 fl h, le-ltb _ _ g, e)

  pub shape_more : last ≤ get_or f i 0 → factor_in_shape (letters_of (get_or f i 0)) ≡ true → shape_from last (drop i (take n f)) ≡ shape_from (get_or f i 0) (drop (i + 1) (take n f))
  unfolding shape_from
  shape_more g e = rw (rest_at f n i 0 fl h, le-ltb _ _ g, e)

pub shape-end : (f : List ℕ) (n i last : ℕ) → n ≤ length f → n ≤ i → shape_from last (drop i (take n f)) ≡ true
unfolding shape_from
shape-end f n i last fl h = rw (nothing_left_lem f n i fl h)

-- ════ the letters used

module _ (f : List ℕ) (n : ℕ) (e : n ≡ length f) where
  -- one letter is a scalar's
  pub counted_one : n ≡ 1 → (0 ≡ vector_letters_of (f ∷ [])) × (1 ≡ scalar_letters_of (f ∷ []))
  unfolding vector_letters_of scalar_letters_of
  counted_one h = let q = eq-eqb (length f) 1 (sym e ∙ h) in (rw q, rw q)

  -- more are vectors'
  pub counted_more : (n ≡ 1 → ⊥) → (n ≡ vector_letters_of (f ∷ [])) × (0 ≡ scalar_letters_of (f ∷ []))
  unfolding vector_letters_of scalar_letters_of
  counted_more h = let q = ne_eqb (length f) 1 (λ (g : length f ≡ 1). h (e ∙ g)) in (rw q (omega arith), rw q)

module _ (f : List ℕ) (n i : ℕ) (fl : n ≤ length f) (h : i < n) where
  pub vectors_more : (v a r : ℕ) → v ≡ vector_letters_of (letters_of (get_or f i 0) ∷ []) → a ≡ r + vector_letters_of (map letters_of (drop i (take n f)))
      → a ≡ r + v + vector_letters_of (map letters_of (drop (i + 1) (take n f)))
  unfolding vector_letters_of
  vectors_more v a r e q = omega (arith, e, rw (rest_at f n i 0 fl h) at q)

  pub scalars_more : (v a r : ℕ) → v ≡ scalar_letters_of (letters_of (get_or f i 0) ∷ []) → a ≡ r + scalar_letters_of (map letters_of (drop i (take n f)))
      → a ≡ r + v + scalar_letters_of (map letters_of (drop (i + 1) (take n f)))
  unfolding scalar_letters_of
  scalars_more v a r e q = omega (arith, e, rw (rest_at f n i 0 fl h) at q)

module _ (f : List ℕ) (n i : ℕ) (fl : n ≤ length f) (h : n ≤ i) where
  pub vectors_all : (a r : ℕ) → a ≡ r + vector_letters_of (map letters_of (drop i (take n f))) → r ≡ a
  unfolding vector_letters_of
  vectors_all a r q = omega (arith, rw (nothing_left_lem f n i fl h) at q)

  pub scalars_all : (a r : ℕ) → a ≡ r + scalar_letters_of (map letters_of (drop i (take n f))) → r ≡ a
  unfolding scalar_letters_of
  scalars_all a r q = omega (arith, rw (nothing_left_lem f n i fl h) at q)

-- ════ few factors

-- what one factor counts: a scalar letter, or at least two vector letters
factor-counts : (k : ℕ) → 2 ≤ 2 * scalar_letters_of (letters_of k ∷ []) + vector_letters_of (letters_of k ∷ [])
factor-counts k = go (eqb (length (letters_of k)) 1) refl
  where
    go : (b : Bool) → eqb (length (letters_of k)) 1 ≡ b → 2 ≤ 2 * scalar_letters_of (letters_of k ∷ []) + vector_letters_of (letters_of k ∷ [])
    go true e = let w = counted_one (letters_of k) _ refl (eqb-true _ _ e) in omega (arith, w.0, w.1)
    go false e = let w = counted_more (letters_of k) _ refl (eqb-false _ _ e) in omega (arith, w.0, w.1, (letters-long k).0, eqb-false (length (letters_of k)) 1 e)

scalars_first : (f : List ℕ) (fs : List (List ℕ)) → scalar_letters_of (f ∷ fs) ≡ scalar_letters_of (f ∷ []) + scalar_letters_of fs
unfolding scalar_letters_of
scalars_first f fs = omega arith

vectors_first : (f : List ℕ) (fs : List (List ℕ)) → vector_letters_of (f ∷ fs) ≡ vector_letters_of (f ∷ []) + vector_letters_of fs
unfolding vector_letters_of
vectors_first f fs = omega arith

-- factors are few where their letters are
pub factors_count : (ks : List ℕ) → 2 * length ks ≤ 2 * scalar_letters_of (map letters_of ks) + vector_letters_of (map letters_of ks)
factors_count [] = omega arith
factors_count (k ∷ ks) =
    omega (arith, factor-counts k, factors_count ks, scalars_first (letters_of k) (map letters_of ks), vectors_first (letters_of k) (map letters_of ks))

-- ════ a term

-- the tests of a term's shape as they are made
pub shape_of : (t : S.Term) (zero within factors part letters : Bool) → zero ≡ is_zero t.coef → within ≡ coef_within t.coef
    → factors ≡ (all factor_in_shape t.factors && ascend factor_not_after t.factors) → part ≡ part_in_shape t.part
    → letters ≡ letters_fit t
    → (not zero && (within && (factors && (part && letters)))) ≡ term_in_shape t
unfolding term_in_shape
shape_of t z w f p l ez ew ef ep el =
    rw (ez, ew, ef, ep, el)
    (in_a_row (not (is_zero t.coef)) (coef_within t.coef) (all factor_in_shape t.factors) (ascend factor_not_after t.factors) (part_in_shape t.part)
    (letters_fit t))
  where
    in_a_row : (z w a b p l : Bool) → (z && (w && ((a && b) && (p && l)))) ≡ (((((z && w) && a) && b) && p) && l)
    in_a_row false w a b p l = refl
    in_a_row true false a b p l = refl
    in_a_row true true false b p l = refl
    in_a_row true true true false p l = refl
    in_a_row true true true true p l = refl

-- the letters of a term, by its factors and its part
pub part-few : (p : Part) → length (part_of p) ≤ 2
unfolding part_of
part-few Nothing = omega arith
part-few (Letter x) = omega arith
part-few (Wedge x y) = omega arith

module _ (fs : List (List ℕ)) (l : List ℕ) (u : Used) (r : ℕ) (h : UsedBy fs u) (e : r ≡ length l) where
  all_letters : u.vectors + r ≡ vector_letters_of fs + length l
  all_letters = omega (arith, h.vectors, e)

  pub too_many_lem : 6 < u.vectors + r → false ≡ (leb (vector_letters_of fs + length l) 6 && leb (scalar_letters_of fs) 2)
  too_many_lem g = rw (← all_letters, lt-leb _ _ g)

  pub enough : u.vectors + r ≤ 6 → leb u.scalars 2 ≡ (leb (vector_letters_of fs + length l) 6 && leb (scalar_letters_of fs) 2)
  enough g = rw (← all_letters, le-leb _ _ g, h.scalars)
