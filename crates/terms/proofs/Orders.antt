-- Comparing: one turn at a time at the first difference, and terms by their numbers. Assumes nothing.
use mathlib.Core.Path.{◌≡◌, refl, sym, ◌∙◌}
use mathlib.Core.List.{List, [], ◌∷◌, map}
use Prim.Native.Nat.{ℕ, ◌+◌, ◌<◌, ◌≤◌, Ordering}
use native.Mathlib.Omega.{arith}
use lib.ListN.{length, get_or, take, drop, length-map}
use lib.Seq.{length-take-le}
use Rattle.std.specs.declared.cmp.Ordering as Std
use Rattle.std.specs.declared.cmp.Ordering.TheVariants.{Less, Equal, Greater}
use Rattle.std.specs.Ordering.{is_lt, is_eq}
use Rattle.std.proofs.Math.Dec.{compare_is_eq}
use Rattle.specification.specs.Lists.{is_less, then_by, order, first_difference, compare_lists}
use Rattle.specification.specs.Terms.{compare_letters, compare_terms}
use Rattle.theory.specs.Order.{nat-laws, compares-less, compares-equal, compares_more}
use Rattle.terms.specs.declared.types.Term.{Term}
use Rattle.terms.specs.Numbers.{letters_of, part_letters_of}
use Rattle.terms.specs.Abstraction.{part_of, term_of, ordering_of}
use Rattle.terms.proofs.Arrays.{rest_at, nothing_left_lem}
use Rattle.terms.proofs.Numbers.{number-order, part-order}

-- ════ the first difference, from a place on

module _ (f g : List ℕ) (n k : ℕ) (fl : n ≤ length f) (gl : n ≤ length g) (kn : k < n) where
  -- it is here, or further on
  pub first_here : (o : Ordering) → order (get_or f k 0) (get_or g k 0) ≡ o
      → first_difference order (drop k (take n f)) (drop k (take n g)) ≡ then_by o (first_difference order (drop (k + 1) (take n f)) (drop (k + 1) (take n g)))
  unfolding first_difference
  first_here o e = rw (rest_at f n k 0 fl kn, rest_at g n k 0 gl kn, e)

  pub first_less : get_or f k 0 < get_or g k 0 → first_difference order (drop k (take n f)) (drop k (take n g)) ≡ Ordering.lt
  first_less h = first_here Ordering.lt (compares-less nat-laws _ _ h)

  pub first_more : get_or g k 0 < get_or f k 0 → first_difference order (drop k (take n f)) (drop k (take n g)) ≡ Ordering.gt
  first_more h = first_here Ordering.gt (compares_more nat-laws _ _ h)

  pub first_later : get_or f k 0 ≤ get_or g k 0 → get_or g k 0 ≤ get_or f k 0
      → first_difference order (drop k (take n f)) (drop k (take n g)) ≡ first_difference order (drop (k + 1) (take n f)) (drop (k + 1) (take n g))
  first_later h i = first_here Ordering.eq (compares-equal nat-laws _ _ (omega arith))

-- nowhere
pub first-none : (f g : List ℕ) (n k : ℕ) → n ≤ length f → n ≤ length g → n ≤ k → first_difference order (drop k (take n f)) (drop k (take n g)) ≡ Ordering.eq
unfolding first_difference
first-none f g n k fl gl h = rw (nothing_left_lem f n k fl h, nothing_left_lem g n k gl h)

-- ════ terms

pub by-numbers : (f g : List ℕ) → first_difference compare_letters (map letters_of f) (map letters_of g) ≡ first_difference order f g
unfolding first_difference
by-numbers [] [] = refl
by-numbers [] (y ∷ g) = refl
by-numbers (x ∷ f) [] = refl
by-numbers (x ∷ f) (y ∷ g) = λ i. then_by (number-order x y i) (by-numbers f g i)

module _ (a b : Term) (x y : ℕ) (p : part_letters_of x ≡ part_of a.part) (q : part_letters_of y ≡ part_of b.part)
    (al : a.factor_count ≤ length a.factors) (bl : b.factor_count ≤ length b.factors) where
  -- by the numbers of the parts, then of the factors, then at the first difference
  pub by_parts : compare_terms (term_of a) (term_of b)
      ≡ then_by (order x y) (then_by (order a.factor_count b.factor_count)
      (first_difference order (take a.factor_count a.factors) (take b.factor_count b.factors)))
  unfolding compare_terms term_of compare_lists
  by_parts =
      let n = a.factor_count in
      let m = b.factor_count in
      let la : length (map letters_of (take n a.factors)) ≡ n = length-map (take n a.factors) letters_of ∙ length-take-le n a.factors al in
      let lb : length (map letters_of (take m b.factors)) ≡ m = length-map (take m b.factors) letters_of ∙ length-take-le m b.factors bl in
      λ i. then_by (((λ j. compare_letters (sym p j) (sym q j)) ∙ part-order x y) i) (then_by (order (la i) (lb i)) (by-numbers (take n a.factors)
      (take m b.factors) i))

  pub part-less : x < y → compare_terms (term_of a) (term_of b) ≡ Ordering.lt
  part-less h = by_parts ∙ rw (compares-less nat-laws x y h)

  pub part-more : y < x → compare_terms (term_of a) (term_of b) ≡ Ordering.gt
  part-more h = by_parts ∙ rw (compares_more nat-laws x y h)

  module _ (xy : x ≤ y) (yx : y ≤ x) where
    same_parts : order x y ≡ Ordering.eq
    same_parts = compares-equal nat-laws x y (omega arith)

    pub count_less : a.factor_count < b.factor_count → compare_terms (term_of a) (term_of b) ≡ Ordering.lt
    count_less h = by_parts ∙ rw (same_parts, compares-less nat-laws _ _ h)

    pub count_more : b.factor_count < a.factor_count → compare_terms (term_of a) (term_of b) ≡ Ordering.gt
    count_more h = by_parts ∙ rw (same_parts, compares_more nat-laws _ _ h)

    pub same_counts : a.factor_count ≤ b.factor_count → b.factor_count ≤ a.factor_count
        → compare_terms (term_of a) (term_of b) ≡ first_difference order (take a.factor_count a.factors) (take a.factor_count b.factors)
    same_counts h g =
        let e : b.factor_count ≡ a.factor_count = omega arith in
        by_parts ∙ rw (same_parts, compares-equal nat-laws _ _ (sym e), e)

-- ════ what a comparison found, tested

pub is_lt-is_less : (o : Std.Ordering) → is_lt o ≡ is_less (ordering_of o)
unfolding ordering_of
is_lt-is_less Less = refl
is_lt-is_less Equal = refl
is_lt-is_less Greater = refl

pub is_eq-is_equal : (o : Std.Ordering) → is_eq o ≡ compare_is_eq (ordering_of o)
unfolding ordering_of
is_eq-is_equal Less = refl
is_eq-is_equal Equal = refl
is_eq-is_equal Greater = refl
