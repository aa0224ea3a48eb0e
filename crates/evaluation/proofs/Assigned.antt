-- Assignments as the functions test and read them, byte by byte. Assumes nothing.
use mathlib.Core.Path.{◌≡◌, refl, ap, sym, ◌∙◌}
use mathlib.Core.Bool.{Bool, true, false, ◌&&◌}
use mathlib.Core.List.{List, ◌∷◌}
use Prim.Native.Nat.{ℕ, zero, suc, ◌+◌, ◌-◌, ◌*◌, ◌≤◌, ◌<◌}
use native.Mathlib.Omega.{arith}
use native.Mathlib.Numerals.{add-one}
use lib.Dec.{leb, ltb, eqb}
use lib.IntN.{ℤ, pos, negsuc}
use lib.ListN.{length, get_or, drop, drop_of_length-le}
use lib.Seq.{drop-cons}
use borrow.Author.Tests.{le-leb, lt-leb, eq-eqb, ne_eqb, eqb-true, eqb-false}
use mir.Syntax.{w8, w64}
use mir.Val.{SFits, to_z, sel}
use Rattle.specification.specs.Results.{when◌then◌else◌}
use Rattle.specification.specs.Lists.{all, each}
use Rattle.specification.specs.Letters.{kind_of}
use Rattle.specification.specs.Evaluation.{signed_byte, six_or_less, rest_is_zero, good_assignment, assignment}
use Rattle.integers.proofs.Machine.{back, back_is}
use Rattle.theory.specs.Values.Vectors.{by-components}
use Rattle.evaluation.specs.Vectors.{vec_of}

-- ════ bytes

-- a byte's bits as a signed number
pub byte_signed : (b : ℕ) → to_z w8 b ≡ signed_byte b
unfolding signed_byte
byte_signed b = go (ltb b 128)
  where
    go : (c : Bool) → sel c (pos b) (negsuc (256 - suc b)) ≡ (when c then pos b else negsuc (255 - b))
    go true = refl
    go false = ap negsuc (omega arith)

-- ════ the vector of a letter

-- three components read one after the other
pub vector_is : (s : List ℕ) (n : ℕ) (x y z : ℤ) → SFits w64 x → SFits w64 y → SFits w64 z
    → x ≡ signed_byte (get_or s (3 * n) 0) → y ≡ signed_byte (get_or s (3 * n + 1) 0) → z ≡ signed_byte (get_or s (3 * n + 2) 0)
    → vec_of (record { x = back x; y = back y; z = back z }) ≡ assignment s n
unfolding vec_of assignment
vector_is s n x y z f g h p q r = by-components (back_is f ∙ p) (back_is g ∙ q) (back_is h ∙ r)

-- ════ from −6 to 6

pub six-below : (b : ℕ) → b ≤ 6 → true ≡ six_or_less b
unfolding six_or_less
six-below b h = rw (le-leb b 6 h)

pub six-above : (b : ℕ) → 6 < b → leb 250 b ≡ six_or_less b
unfolding six_or_less
six-above b h = rw (lt-leb b 6 h)

-- a test of every byte, from a place on
module _ (f : ℕ → Bool) (s : List ℕ) (i : ℕ) where
  here : i < length s → drop i s ≡ get_or s i 0 ∷ drop (i + 1) s
  here h = drop-cons s i 0 h ∙ rw add-one

  pub byte-fails : i < length s → f (get_or s i 0) ≡ false → all f (drop i s) ≡ false
  unfolding all
  byte-fails h e = rw (here h, e)

  pub byte-passes : i < length s → f (get_or s i 0) ≡ true → all f (drop i s) ≡ all f (drop (i + 1) s)
  unfolding all
  byte-passes h e = rw (here h, e)

  pub bytes-end : length s ≤ i → all f (drop i s) ≡ true
  unfolding all
  bytes-end h = rw (drop_of_length-le s h)

-- ════ the second and third number of a scalar letter

module _ (table s : List ℕ) (n : ℕ) where
  pub rest_of-vector : kind_of table n ≡ 1 → true ≡ rest_is_zero table s n
  unfolding rest_is_zero
  rest_of-vector e = rw (eq-eqb (kind_of table n) 1 e)

  module _ (o : kind_of table n ≡ 1 → ⊥) where
    pub second-not_zero : (get_or s (3 * n + 1) 0 ≡ 0 → ⊥) → false ≡ rest_is_zero table s n
    unfolding rest_is_zero
    second-not_zero h = rw (ne_eqb (kind_of table n) 1 o, ne_eqb (get_or s (3 * n + 1) 0) 0 h)

    pub third-decides : get_or s (3 * n + 1) 0 ≡ 0 → eqb (get_or s (3 * n + 2) 0) 0 ≡ rest_is_zero table s n
    unfolding rest_is_zero
    third-decides h = rw (ne_eqb (kind_of table n) 1 o, eq-eqb (get_or s (3 * n + 1) 0) 0 h)

-- ════ a test at 0, 1, ..

module _ (f : ℕ → Bool) where
  -- one that fails makes all fail
  pub one_fails : (n i : ℕ) → i < n → f i ≡ false → each n f ≡ false
  unfolding each
  one_fails zero i h e = absurd (omega arith)
  one_fails (suc n) i h e = go (eqb i n) refl (λ g. one_fails n i g e)
    where
      last : (b : Bool) → b && false ≡ false
      last true = refl
      last false = refl

      go : (b : Bool) → eqb i n ≡ b → (i < n → each n f ≡ false) → each n f && f n ≡ false
      go true p r = rw (sym (ap f (eqb-true i n p)) ∙ e) (last (each n f))
      go false p r = rw (r (omega (arith, eqb-false i n p)))

  -- one more that holds
  pub one_more : (i : ℕ) → each i f ≡ true → f i ≡ true → each (i + 1) f ≡ true
  unfolding each
  one_more i p q = rw (add-one, p, q)

-- ════ the whole test

module _ (table s : List ℕ) where
  pub wrong-length : (length s ≡ 3 * length table → ⊥) → false ≡ good_assignment table s
  unfolding good_assignment
  wrong-length h = rw (ne_eqb (length s) (3 * length table) h)

  module _ (h : length s ≡ 3 * length table) where
    pub not-small : all six_or_less s ≡ false → false ≡ good_assignment table s
    unfolding good_assignment
    not-small e = rw (eq-eqb (length s) (3 * length table) h, e)

    pub rest-decides : all six_or_less s ≡ true → each (length table) (rest_is_zero table s) ≡ good_assignment table s
    unfolding good_assignment
    rest-decides e = rw (eq-eqb (length s) (3 * length table) h, e)
