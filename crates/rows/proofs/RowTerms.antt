-- A row and its term: a row's numbers one by one, and that the order of terms is that of the rows' numbers. Assumes nothing.
use mathlib.Core.Path.{◌≡◌, refl, ap, sym, subst, ◌∙◌}
use mathlib.Core.Logic.{◌⊎◌, inl, inr}
use mathlib.Core.List.{List, [], ◌∷◌, map}
use Prim.Native.Nat.{ℕ, suc, ◌+◌, ◌-◌, ◌*◌, ◌/◌, ◌%◌, ◌<◌, Ordering}
use native.Mathlib.Omega.{arith}
use native.Mathlib.Numerals.{add-one}
use lib.IntN.{ℤ}
use lib.ListN.{length, take, drop, get_or, length-map, length-drop}
use lib.Seq.{length-take-le}
use Rattle.specification.specs.Lists.{then_by, order, first_difference, compare_lists}
use Rattle.specification.specs.Terms.{compare_terms}
use Rattle.theory.specs.Elements.{All}
use Rattle.theory.specs.Order.{nat-laws, compares-less, compares-equal, compares_more}
use Rattle.theory.specs.Sorting as O
use Rattle.terms.specs.declared.types.Part.{Part}
use Rattle.terms.specs.declared.types.Term.{Term}
use Rattle.terms.specs.Numbers.{letters_of, part_letters_of, PartNumber}
use Rattle.terms.specs.Abstraction.{part_of, term_of, Counted}
use Rattle.terms.proofs.Numbers.{part-order}
use Rattle.terms.proofs.Orders.{by-numbers}
use Rattle.rows.specs.Rows.{head_of, factors_of, term_by, RowValid, RowOf}

-- ════ the numbers of a row

-- seven numbers, one by one
pub seven : (l : List ℕ) → length l ≡ 7 → (get_or l 0 0 ∷ get_or l 1 0 ∷ get_or l 2 0 ∷ get_or l 3 0 ∷ get_or l 4 0 ∷ get_or l 5 0 ∷ get_or l 6 0 ∷ []) ≡ l
seven [] h = absurd (omega arith)
seven (a ∷ []) h = absurd (omega arith)
seven (a ∷ b ∷ []) h = absurd (omega arith)
seven (a ∷ b ∷ c ∷ []) h = absurd (omega arith)
seven (a ∷ b ∷ c ∷ d ∷ []) h = absurd (omega arith)
seven (a ∷ b ∷ c ∷ d ∷ e ∷ []) h = absurd (omega arith)
seven (a ∷ b ∷ c ∷ d ∷ e ∷ f ∷ []) h = absurd (omega arith)
seven (a ∷ b ∷ c ∷ d ∷ e ∷ f ∷ g ∷ []) h = refl
seven (a ∷ b ∷ c ∷ d ∷ e ∷ f ∷ g ∷ i ∷ l) h = absurd (omega arith)

-- those behind the first of eight
pub behind-head : (r : List ℕ) → length r ≡ 8 → (get_or r 1 0 ∷ get_or r 2 0 ∷ get_or r 3 0 ∷ get_or r 4 0 ∷ get_or r 5 0 ∷ get_or r 6 0 ∷ get_or r 7 0 ∷ []) ≡ drop 1 r
behind-head [] h = absurd (omega arith)
behind-head (x ∷ l) h = seven l (omega arith)

-- the term of a row
pub term_of-row : (r fs : List ℕ) (z c : ℤ) (p : Part) → RowValid r → fs ≡ drop 1 r → z ≡ c → part_of p ≡ part_letters_of (get_or r 0 0 / 8)
    → (term_of (record { coef = z; factors = fs; factor_count = get_or r 0 0 % 8; part = p }) ≡ term_by r c) × Counted (record {
      coef = z;
      factors =
          fs;
      factor_count = get_or r 0 0 % 8;
      part = p;
    })
unfolding term_of term_by head_of factors_of
term_of-row r fs z c p v e f q = (
  (λ i. record { coef = f i; factors = map letters_of (take (get_or r 0 0 % 8) (e i)); part = q i }),
  record { few = omega arith; small = subst (λ (l : List ℕ). All (λ (k : ℕ). k < 16843008) (take (get_or r 0 0 % 8) l)) (sym e) v.small },
)

-- the row of a term
pub row_of-term : (t : Term) (h k : ℕ) (fs : List ℕ) → Counted t → length t.factors ≡ 7 → PartNumber (part_of t.part) k
    → h ≡ k * 8 + t.factor_count → fs ≡ t.factors → RowOf t (h ∷ fs)
unfolding term_of term_by head_of factors_of
row_of-term t h k fs v n p e q =
    let b : h / 8 ≡ k = omega (arith, v.few) in
    let a : h % 8 ≡ t.factor_count = omega (arith, v.few) in
    record {
      is = (λ i. record { coef = t.coef; factors = map letters_of (take (a i) (q i)); part = (ap part_letters_of b ∙ p.letters) i });
      valid = record {
        places = ap suc (ap length q ∙ n);
        part = omega (arith, p.small);
        small = subst (λ (m : ℕ). All (λ (k : ℕ). k < 16843008) (take m fs)) (sym a) (subst (λ (l : List ℕ). All (λ (k : ℕ). k < 16843008)
            (take t.factor_count l)) (sym q) v.small);
      };
    }

-- ════ the order

-- the order of two numbers is that of their parts, then that of their counts
by_heads : (x y : ℕ) (z : Ordering) → then_by (order (x / 8) (y / 8)) (then_by (order (x % 8) (y % 8)) z) ≡ then_by (order x y) z
by_heads x y z = go (O.tri nat-laws x y)
  where
    less : (x y : ℕ) → x < y → ((x / 8 < y / 8) ⊎ (x / 8 ≡ y / 8)) ⊎ (y / 8 < x / 8) → then_by (order (x / 8) (y / 8)) (then_by (order (x % 8)
        (y % 8)) z) ≡ Ordering.lt
    less x y h (inl (inl g)) = rw (compares-less nat-laws (x / 8) (y / 8) g)
    less x y h (inl (inr e)) = let m : x % 8 < y % 8 = omega arith in rw (compares-equal nat-laws (x / 8) (y / 8) e, compares-less nat-laws (x % 8) (y % 8) m)
    less x y h (inr g) = absurd (omega arith)

    more : (x y : ℕ) → y < x → ((x / 8 < y / 8) ⊎ (x / 8 ≡ y / 8)) ⊎ (y / 8 < x / 8) → then_by (order (x / 8) (y / 8)) (then_by (order (x % 8)
        (y % 8)) z) ≡ Ordering.gt
    more x y h (inl (inl g)) = absurd (omega arith)
    more x y h (inl (inr e)) = let m : y % 8 < x % 8 = omega arith in rw (compares-equal nat-laws (x / 8) (y / 8) e, compares_more nat-laws (x % 8) (y % 8) m)
    more x y h (inr g) = rw (compares_more nat-laws (x / 8) (y / 8) g)

    go : ((x < y) ⊎ (x ≡ y)) ⊎ (y < x) → then_by (order (x / 8) (y / 8)) (then_by (order (x % 8) (y % 8)) z) ≡ then_by (order x y) z
    go (inl (inl h)) = less x y h (O.tri nat-laws (x / 8) (y / 8)) ∙ sym (ap (λ (o : Ordering). then_by o z) (compares-less nat-laws x y h))
    go (inl (inr e)) =
        (λ i. then_by (compares-equal nat-laws (x / 8) (y / 8) (ap (λ (n : ℕ). n / 8) e) i) (then_by (compares-equal nat-laws (x % 8) (y % 8)
        (ap (λ (n : ℕ). n % 8) e) i) z))
        ∙ sym (ap (λ (o : Ordering). then_by o z) (compares-equal nat-laws x y e))
    go (inr h) = more x y h (O.tri nat-laws (x / 8) (y / 8)) ∙ sym (ap (λ (o : Ordering). then_by o z) (compares_more nat-laws x y h))

module _ (a b : List ℕ) (la : length a ≡ 8) (lb : length b ≡ 8) (c d : ℤ) where
  counts : (r : List ℕ) → length r ≡ 8 → length (map letters_of (factors_of r)) ≡ head_of r % 8
  unfolding factors_of head_of
  counts r h = length-map (take (get_or r 0 0 % 8) (drop 1 r)) letters_of ∙ length-take-le (get_or r 0 0 % 8) (drop 1 r) (omega (arith, length-drop 1 r))

  by-factors : compare_terms (term_by a c) (term_by b d) ≡ then_by (order (head_of a) (head_of b)) (first_difference order (factors_of a) (factors_of b))
  unfolding compare_terms term_by compare_lists
  by-factors =
      (λ i. then_by (part-order (head_of a / 8) (head_of b / 8) i) (then_by (order (counts a la i) (counts b lb i)) (by-numbers (factors_of a) (factors_of b) i)))
      ∙ by_heads (head_of a) (head_of b) (first_difference order (factors_of a) (factors_of b))

-- the numbers of a row up to its count decide
pub by_row : (a b : List ℕ) → length a ≡ 8 → length b ≡ 8 → (c d : ℤ) → compare_terms (term_by a c)
    (term_by b d) ≡ first_difference order (take (get_or a 0 0 % 8 + 1) a) (take (get_or a 0 0 % 8 + 1) b)
unfolding first_difference factors_of head_of
by_row [] b la lb c d = absurd (omega arith)
by_row (x ∷ a) [] la lb c d = absurd (omega arith)
by_row (x ∷ a) (y ∷ b) la lb c d = by-factors (x ∷ a) (y ∷ b) la lb c d ∙ rw add-one (go (O.tri nat-laws x y))
  where
    go : ((x < y) ⊎ (x ≡ y)) ⊎ (y < x) → then_by (order x y) (first_difference order (take (x % 8) a) (take (y % 8) b)) ≡ then_by (order x y)
        (first_difference order (take (x % 8) a) (take (x % 8) b))
    go (inl (inl h)) = rw (compares-less nat-laws x y h)
    go (inl (inr e)) = ap (λ (n : ℕ). then_by (order x y) (first_difference order (take (x % 8) a) (take (n % 8) b))) (sym e)
    go (inr h) = rw (compares_more nat-laws x y h)
