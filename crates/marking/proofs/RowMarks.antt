-- The marks of a rule's rows by the marks of its letters, and the signs of rows that surely stand. Assumes nothing.
use mathlib.Core.Path.{◌≡◌, refl, sym, ap, subst, ◌∙◌}
use mathlib.Core.Bool.{Bool, true, false, ◌&&◌}
use mathlib.Core.Logic.{◌⊎◌, inl, inr}
use mathlib.Core.List.{List, [], ◌∷◌, ◌++◌, append-nil}
use Prim.Native.Nat.{ℕ, ◌+◌, ◌*◌, ◌/◌, ◌%◌, ◌<◌, ◌≤◌}
use native.Mathlib.Nat as N
use native.Mathlib.Omega.{arith}
use borrow.Author.Tests.{eqb-true, eqb-false}
use lib.Dec.{T, eqb, leb, leb→le, eqb→eq}
use lib.IntN.{ℤ, pos, negsuc, nat_abs, ◌*ℤ◌}
use lib.ListN.{get_or}
use Rattle.algebra.specs.Integers.{NonZero, pos-nonzero, negsuc-nonzero, product-nonzero, factors-nonzero, unit-nonzero, one_*ℤ, *ℤ_assoc}
use Rattle.specification.specs.Results.{when◌then◌else◌}
use Rattle.specification.specs.Lists.{all}
use Rattle.specification.specs.Terms.{pair_sign, sign_before, exchange_sign, factor_sign, factors_sign, with_coef, times_term, tidy, term_in_shape}
use Rattle.specification.specs.Terms as S
use Rattle.theory.specs.Tests.{and_split}
use Rattle.theory.specs.Elements.{all_T, all-at}
use Rattle.theory.specs.Order.{nat-laws}
use Rattle.theory.specs.Sorting as O
use Rattle.theory.specs.Signs.{pair_lt, pair_gt}
use Rattle.theory.specs.Shape.Terms.{term-opens, in_shape-tidy}
use Rattle.rule_table.specs.Table.{rule_rows, letter, letter_at, factor_letters, factor_at, part_at, row_sign, row_term}
use Rattle.marking.specs.Marks.{letter_mark, letters_mark, factors_mark, mark_of, LettersMarked, places_mark, row_mark, row_part_mark, product_mark, Differing, RowStands}
use Rattle.marking.proofs.MarkedTerms.{factors-joined, mark-product}

-- ════ the table

-- a factor has a first and a second letter, and no place is beyond the sixth
unfoldable pub good_places : ℕ → Bool
good_places c = when eqb c 0 then true else leb 1 (c / 64) && leb (c / 64) 6 && leb 1 (c / 8 % 8) && leb (c / 8 % 8) 6 && leb (c % 8) 6

-- a vector part has a first letter where it has a second
unfoldable pub good_part : ℕ → Bool
good_part c = when eqb (c / 8) 0 then eqb (c % 8) 0 else leb (c / 8) 6 && leb (c % 8) 6

good_row : ℕ → Bool
good_row n = good_places (n / 16777216 % 512) && good_places (n / 32768 % 512) && good_places (n / 64 % 512) && good_part (n % 64)

-- the test of the whole table
rows_good : T (all good_row rule_rows)
unfolding all rule_rows good_row good_places good_part
rows_good = tt

-- a row of the table
pub record Good (n : ℕ) : Type 0 where
  pub first : T (good_places (n / 16777216 % 512))
  pub second : T (good_places (n / 32768 % 512))
  pub third : T (good_places (n / 64 % 512))
  pub part : T (good_part (n % 64))

four : (a b c d : Bool) → T (a && b && c && d) → T a × T b × T c × T d
four true true true d h = (tt, tt, tt, h)
four true true false d h = absurd h
four true false c d h = absurd h
four false b c d h = absurd h

pub row_good : (k : ℕ) → k < 23 → Good (get_or rule_rows k 0)
unfolding rule_rows good_row
row_good k h =
    let n = get_or rule_rows k 0 in
    let w = four (good_places (n / 16777216 % 512)) (good_places (n / 32768 % 512)) (good_places (n / 64 % 512)) (good_part (n % 64))
    (all-at (λ (n : ℕ). T (good_row n)) rule_rows k 0 (all_T good_row rule_rows rows_good) h) in
    record { first = w.0; second = w.1; third = w.2; part = w.3 }

five : (a b c d e : Bool) → T (a && b && c && d && e) → T a × T b × T c × T d × T e
five true true true true e h = (tt, tt, tt, tt, h)
five true true true false e h = absurd h
five true true false d e h = absurd h
five true false c d e h = absurd h
five false b c d e h = absurd h

-- a row's sign is 1 or −1
pub sign_one : (n : ℕ) → nat_abs (row_sign n) ≡ 1
unfolding row_sign
sign_one n = go (eqb (n / 8589934592) 1)
  where
    go : (b : Bool) → nat_abs (when b then pos 1 else negsuc 0) ≡ 1
    go true = refl
    go false = refl

-- ════ signs of letters that differ

pair-stands : (x y : ℕ) → (x ≡ y → ⊥) → NonZero (pair_sign x y)
pair-stands x y h = go (O.tri nat-laws x y)
  where
    go : ((x < y) ⊎ (x ≡ y)) ⊎ (y < x) → NonZero (pair_sign x y)
    go (inl (inl l)) = subst NonZero (sym (pair_lt x y l)) (pos-nonzero 0)
    go (inl (inr e)) = absurd (h e)
    go (inr l) = subst NonZero (sym (pair_gt x y l)) (negsuc-nonzero 0)

two_stand : (x y : ℕ) → (x ≡ y → ⊥) → NonZero (exchange_sign (x ∷ y ∷ []))
unfolding exchange_sign sign_before
two_stand x y h = product-nonzero (pair_sign x y *ℤ pos 1) (pos 1 *ℤ pos 1) (product-nonzero (pair_sign x y) (pos 1) (pair-stands x y h) (pos-nonzero 0)) (pos-nonzero 0)

three-stand : (x y z : ℕ) → (x ≡ y → ⊥) → (x ≡ z → ⊥) → (y ≡ z → ⊥) → NonZero (exchange_sign (x ∷ y ∷ z ∷ []))
unfolding exchange_sign sign_before
three-stand x y z h k l =
    product-nonzero (pair_sign x y *ℤ (pair_sign x z *ℤ pos 1)) (exchange_sign (y ∷ z ∷ []))
    (product-nonzero (pair_sign x y) (pair_sign x z *ℤ pos 1) (pair-stands x y h) (product-nonzero (pair_sign x z) (pos 1) (pair-stands x z k) (pos-nonzero 0)))
    (two_stand y z l)

signs-joined : (k l : List (List ℕ)) → factors_sign (k ++ l) ≡ factors_sign k *ℤ factors_sign l
unfolding factors_sign
signs-joined [] l = sym (one_*ℤ (factors_sign l))
signs-joined (f ∷ k) l = ap (λ (z : ℤ). factor_sign f *ℤ z) (signs-joined k l) ∙ sym (*ℤ_assoc (factor_sign f) (factors_sign k) (factors_sign l))

both-stand : (k l : List (List ℕ)) → NonZero (factors_sign k) → NonZero (factors_sign l) → NonZero (factors_sign (k ++ l))
both-stand k l a b = subst NonZero (sym (signs-joined k l)) (product-nonzero (factors_sign k) (factors_sign l) a b)

-- ════ a row

module _ (ls l : List ℕ) (w : LettersMarked ls l) where
  last_mark : (p : ℕ) → p ≤ 6 → get_or l p 0 ≡ letters_mark (letter_at ls p)
  unfolding letter_at letters_mark
  last_mark p h = go (eqb p 0) refl
    where
      go : (b : Bool) → eqb p 0 ≡ b → get_or l p 0 ≡ letters_mark (when b then [] else letter ls p ∷ [])
      go true e = ap (λ (n : ℕ). get_or l n 0) (eqb-true p 0 e) ∙ w.none
      go false e = w.at p (omega (arith, eqb-false p 0 e)) h ∙ sym (N.mul-one (letter_mark (letter ls p)))

  factor-mark : (c : ℕ) → T (good_places c) → places_mark l c ≡ factors_mark (factor_at ls c)
  unfolding good_places places_mark factor_letters factor_at factors_mark letters_mark
  factor-mark c = go (eqb c 0)
    where
      go : (b : Bool) → T (when b then true else leb 1 (c / 64) && leb (c / 64) 6 && leb 1 (c / 8 % 8) && leb (c / 8 % 8) 6 && leb (c % 8) 6)
          → (when b then 0 else get_or l (c / 64) 0 * get_or l (c / 8 % 8) 0 * get_or l (c % 8) 0) ≡ factors_mark (when b then [] else (letter ls (c / 64) ∷ letter ls (c / 8 % 8) ∷ letter_at ls (c % 8)) ∷ [])
      go true h = refl
      go false h =
          let v = five (leb 1 (c / 64)) (leb (c / 64) 6) (leb 1 (c / 8 % 8)) (leb (c / 8 % 8) 6) (leb (c % 8) 6) h in
          let x = letter_mark (letter ls (c / 64)) in
          let y = letter_mark (letter ls (c / 8 % 8)) in
          let z = letters_mark (letter_at ls (c % 8)) in
          (λ i. w.at (c / 64) (leb→le 1 (c / 64) v.0) (leb→le (c / 64) 6 v.1) i * w.at (c / 8 % 8) (leb→le 1 (c / 8 % 8) v.2) (leb→le (c / 8 % 8) 6 v.3) i
          * last_mark (c % 8) (leb→le (c % 8) 6 v.4) i)
          ∙ N.mul_assoc x y z ∙ sym (N.add-zero (x * (y * z)))

  part-mark : (c : ℕ) → T (good_part c) → get_or l (c / 8) 0 * get_or l (c % 8) 0 ≡ letters_mark (part_at ls c)
  unfolding good_part part_at letters_mark
  part-mark c = go (eqb (c / 8) 0) refl
    where
      go : (b : Bool) → eqb (c / 8) 0 ≡ b → T (when b then eqb (c % 8) 0 else leb (c / 8) 6 && leb (c % 8) 6)
          → get_or l (c / 8) 0 * get_or l (c % 8) 0 ≡ letters_mark (when b then [] else letter ls (c / 8) ∷ letter_at ls (c % 8))
      go true e h = λ i. (ap (λ (n : ℕ). get_or l n 0) (eqb-true (c / 8) 0 e) ∙ w.none) i * (ap (λ (n : ℕ). get_or l n 0) (eqb→eq (c % 8) 0 h) ∙ w.none) i
      go false e h =
          let v = and_split (leb (c / 8) 6) (leb (c % 8) 6) h in
          λ i. w.at (c / 8) (omega (arith, eqb-false (c / 8) 0 e)) (leb→le (c / 8) 6 v.0) i * last_mark (c % 8) (leb→le (c % 8) 6 v.1) i

  -- letters whose marks differ differ
  differ : (p q : ℕ) → 1 ≤ p → p ≤ 6 → 1 ≤ q → q ≤ 6 → (get_or l p 0 ≡ get_or l q 0 → ⊥) → letter ls p ≡ letter ls q → ⊥
  differ p q p1 p6 q1 q6 h e = h (w.at p p1 p6 ∙ ap letter_mark e ∙ sym (w.at q q1 q6))

  factor-stands : (c : ℕ) → T (good_places c) → Differing l c → NonZero (factors_sign (factor_at ls c))
  unfolding good_places factor_letters factor_at factors_sign factor_sign letter_at
  factor-stands c g d = go (eqb c 0) g
    where
      go : (b : Bool) → T (when b then true else leb 1 (c / 64) && leb (c / 64) 6 && leb 1 (c / 8 % 8) && leb (c / 8 % 8) 6 && leb (c % 8) 6)
          → NonZero (factors_sign (when b then [] else (letter ls (c / 64) ∷ letter ls (c / 8 % 8) ∷ letter_at ls (c % 8)) ∷ []))
      go true h = pos-nonzero 0
      go false h = last (eqb (c % 8) 0) refl
        where
          v : T (leb 1 (c / 64)) × T (leb (c / 64) 6) × T (leb 1 (c / 8 % 8)) × T (leb (c / 8 % 8) 6) × T (leb (c % 8) 6)
          v = five (leb 1 (c / 64)) (leb (c / 64) 6) (leb 1 (c / 8 % 8)) (leb (c / 8 % 8) 6) (leb (c % 8) 6) h

          a1 : 1 ≤ c / 64
          a1 = leb→le 1 (c / 64) v.0

          a6 : c / 64 ≤ 6
          a6 = leb→le (c / 64) 6 v.1

          b1 : 1 ≤ c / 8 % 8
          b1 = leb→le 1 (c / 8 % 8) v.2

          b6 : c / 8 % 8 ≤ 6
          b6 = leb→le (c / 8 % 8) 6 v.3

          c6 : c % 8 ≤ 6
          c6 = leb→le (c % 8) 6 v.4

          last : (b : Bool) → eqb (c % 8) 0 ≡ b → NonZero (factors_sign ((letter ls (c / 64) ∷ letter ls (c / 8 % 8) ∷ (when b then [] else letter ls (c % 8) ∷ [])) ∷ []))
          last true e = pos-nonzero 0
          last false e =
              let z : (c % 8 ≡ 0 → ⊥) = eqb-false (c % 8) 0 e in
              let c1 : 1 ≤ c % 8 = omega (arith, z) in
              product-nonzero (exchange_sign (letter ls (c / 64) ∷ letter ls (c / 8 % 8) ∷ letter ls (c % 8) ∷ [])) (pos 1)
              (three-stand (letter ls (c / 64)) (letter ls (c / 8 % 8)) (letter ls (c % 8))
              (differ (c / 64) (c / 8 % 8) a1 a6 b1 b6 (d.first z)) (differ (c / 64) (c % 8) a1 a6 c1 c6 (d.second z)) (differ (c / 8 % 8) (c % 8) b1 b6 c1 c6 (d.third z)))
              (pos-nonzero 0)

  part-stands : (c : ℕ) → T (good_part c) → ((c % 8 ≡ 0 → ⊥) → get_or l (c / 8) 0 ≡ get_or l (c % 8) 0 → ⊥) → NonZero (exchange_sign (part_at ls c))
  unfolding good_part part_at letter_at exchange_sign sign_before
  part-stands c g d = go (eqb (c / 8) 0) refl g
    where
      go : (b : Bool) → eqb (c / 8) 0 ≡ b → T (when b then eqb (c % 8) 0 else leb (c / 8) 6 && leb (c % 8) 6)
          → NonZero (exchange_sign (when b then [] else letter ls (c / 8) ∷ letter_at ls (c % 8)))
      go true e h = pos-nonzero 0
      go false e h = last (eqb (c % 8) 0) refl
        where
          v : T (leb (c / 8) 6) × T (leb (c % 8) 6)
          v = and_split (leb (c / 8) 6) (leb (c % 8) 6) h

          last : (b : Bool) → eqb (c % 8) 0 ≡ b → NonZero (exchange_sign (letter ls (c / 8) ∷ (when b then [] else letter ls (c % 8) ∷ [])))
          last true q = pos-nonzero 0
          last false q =
              let z : (c % 8 ≡ 0 → ⊥) = eqb-false (c % 8) 0 q in
              two_stand (letter ls (c / 8)) (letter ls (c % 8))
              (differ (c / 8) (c % 8) (omega (arith, eqb-false (c / 8) 0 e)) (leb→le (c / 8) 6 v.0) (omega (arith, z)) (leb→le (c % 8) 6 v.1) (d z))

  -- the mark of a row times a term, whatever the coefficient
  pub product_mark_lem : (c : ℤ) (m : S.Term) (n : ℕ) → Good n → mark_of (times_term (with_coef c m) (row_term ls n)) ≡ product_mark (factors_mark m.factors) (letters_mark m.part) l n
  unfolding row_term product_mark row_mark row_part_mark
  product_mark_lem c m n g =
      let x = factor_at ls (n / 16777216 % 512) in
      let y = factor_at ls (n / 32768 % 512) in
      let z = factor_at ls (n / 64 % 512) in
      let factors : factors_mark ((x ++ y) ++ z) ≡ places_mark l (n / 16777216 % 512) + places_mark l (n / 32768 % 512) + places_mark l (n / 64 % 512) =
      factors-joined (x ++ y) z ∙ ap (λ (k : ℕ). k + factors_mark z) (factors-joined x y)
      ∙ sym (λ i. factor-mark (n / 16777216 % 512) g.first i + factor-mark (n / 32768 % 512) g.second i + factor-mark (n / 64 % 512) g.third i) in
      mark-product (with_coef c m) (row_term ls n) ∙ (λ i. (factors_mark m.factors + factors i + 3 * (letters_mark m.part * sym (part-mark (n % 64) g.part) i)) % 509)

  -- a row that surely stands, times a term in shape with any coefficient that is not 0
  pub product-stands : (c : ℤ) (m : S.Term) (n : ℕ) → NonZero c → T (term_in_shape m) → (m.part ≡ []) ⊎ (part_at ls (n % 64) ≡ []) → Good n → RowStands l n
      → NonZero (tidy (times_term (with_coef c m) (row_term ls n))).coef
  unfolding tidy times_term row_term row_sign
  product-stands c m n h s p g r =
      product-nonzero (c *ℤ row_sign n) (factors_sign (m.factors ++ (x ++ y ++ z)) *ℤ exchange_sign (m.part ++ part_at ls (n % 64)))
      (product-nonzero c (row_sign n) h (unit-nonzero (row_sign n) (sign_one n)))
      (product-nonzero (factors_sign (m.factors ++ (x ++ y ++ z))) (exchange_sign (m.part ++ part_at ls (n % 64)))
      (both-stand m.factors (x ++ y ++ z) own.0
      (both-stand (x ++ y) z (both-stand x y (factor-stands (n / 16777216 % 512) g.first r.first) (factor-stands (n / 32768 % 512) g.second r.second))
      (factor-stands (n / 64 % 512) g.third r.third)))
      (parts p))
    where
      x : List (List ℕ)
      x = factor_at ls (n / 16777216 % 512)

      y : List (List ℕ)
      y = factor_at ls (n / 32768 % 512)

      z : List (List ℕ)
      z = factor_at ls (n / 64 % 512)

      own : NonZero (factors_sign m.factors) × NonZero (exchange_sign m.part)
      own =
          let e : (tidy m).coef ≡ m.coef = ap (λ (t : S.Term). t.coef) (in_shape-tidy m s) in
          let w = factors-nonzero m.coef (factors_sign m.factors *ℤ exchange_sign m.part) (subst NonZero (sym e) (term-opens m s).nonzero) in
          factors-nonzero (factors_sign m.factors) (exchange_sign m.part) w.1

      parts : (m.part ≡ []) ⊎ (part_at ls (n % 64) ≡ []) → NonZero (exchange_sign (m.part ++ part_at ls (n % 64)))
      parts (inl e) = subst (λ (q : List ℕ). NonZero (exchange_sign (q ++ part_at ls (n % 64)))) (sym e) (part-stands (n % 64) g.part r.part)
      parts (inr e) = subst (λ (q : List ℕ). NonZero (exchange_sign (m.part ++ q))) (sym e) (subst (λ (q : List ℕ). NonZero (exchange_sign q)) (sym (append-nil m.part)) own.1)
