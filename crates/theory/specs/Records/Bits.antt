-- The bit map of a term record: its bits tell the fields that are there, and no other number does. Assumes nothing.
use Rattle.std.specs.Prelude.{◌≡◌, refl, Bool, true, false, not, ◌&&◌, List, [], ◌∷◌, ℕ, ◌+◌, ◌*◌, ◌/◌, ◌%◌, ◌^◌, ◌≤◌, ◌<◌, ℤ, length, T, ltb, eqb}
use Rattle.std.proofs.lemmas.Bool.{false≢true, eqb-false}
use Rattle.std.proofs.Common.{arith, ltb→lt, lt-ltb, eqb-true, eq-eqb, ne_eqb}
use Rattle.specification.specs.Results.{when◌then◌else◌}
use Rattle.specification.specs.Records.{is_one, coef_field, count_field, four_bytes, bit_of, part_bit, stands, part_letters, good_bits}
use Rattle.theory.specs.Tests.{is_true, and_split}
use Rattle.theory.specs.Records.Fields.{are_there}

-- 1 where a test holds
abbrev bit : Bool → ℕ
bit true = 1
bit false = 0

bit-small : (b : Bool) → bit b ≤ 1
bit-small true = omega arith
bit-small false = omega arith

-- the bit map of a record with these fields
abbrev pub bit_map : (coef scalars dots triples : Bool) (part : List ℕ) → ℕ
bit_map c s d t part = bit c * 1 + bit s * 2 + bit d * 4 + bit t * 8 + part_bit part

-- bit 0 stands where a coefficient is written
pub coef-bit : (k : ℤ) → bit_of (coef_field k) 1 ≡ bit (not (is_one k)) * 1
unfolding bit_of coef_field four_bytes
coef-bit k = go (is_one k) refl
  where
    go : (b : Bool) → is_one k ≡ b → bit_of (coef_field k) 1 ≡ bit (not (is_one k)) * 1
    go true e = simp e
    go false e = simp e

-- a bit stands where there are factors
pub count_bit : (fs : List (List ℕ)) (n : ℕ) → bit_of (count_field fs) n ≡ bit (are_there fs) * n
unfolding bit_of count_field
count_bit [] n = omega arith
count_bit (f ∷ fs) n = omega arith

stands_is : (k n : ℕ) (b : Bool) → n / 2 ^ k % 2 ≡ bit b → stands k n ≡ b
unfolding stands
stands_is k n true e = eq-eqb (n / 2 ^ k % 2) 1 e
stands_is k n false e = ne_eqb (n / 2 ^ k % 2) 1 (λ q. omega arith)

digit-bit : (x : ℕ) → x % 2 ≡ bit (eqb (x % 2) 1)
digit-bit x = go (eqb (x % 2) 1) refl
  where
    go : (b : Bool) → eqb (x % 2) 1 ≡ b → x % 2 ≡ bit (eqb (x % 2) 1)
    go true e = rw e (eqb-true (x % 2) 1 e)
    go false e = let h : ¬ (x % 2 ≡ 1) = eqb-false (x % 2) 1 e in rw e (omega arith)

stands-bit : (k n : ℕ) → n / 2 ^ k % 2 ≡ bit (stands k n)
unfolding stands
stands-bit k n = digit-bit (n / 2 ^ k)

-- what a bit map tells
pub record Tells (n : ℕ) (c s d t : Bool) (part : List ℕ) : Type 0 where
  pub coef : stands 0 n ≡ c
  pub scalars : stands 1 n ≡ s
  pub dots : stands 2 n ≡ d
  pub triples : stands 3 n ≡ t
  pub letters : part_letters n ≡ length part
  pub good : good_bits n ≡ true

module _ (c s d t : Bool) (n q : ℕ) (h : n ≡ bit c * 1 + bit s * 2 + bit d * 4 + bit t * 8 + q * 16) (l : q ≤ 2) where
  stands₀ : stands 0 n ≡ c
  stands₀ = stands_is 0 n c (omega (arith, bit-small c, bit-small s, bit-small d, bit-small t))

  stands₁ : stands 1 n ≡ s
  stands₁ = stands_is 1 n s (omega (arith, bit-small c, bit-small s, bit-small d, bit-small t))

  stands₂ : stands 2 n ≡ d
  stands₂ = stands_is 2 n d (omega (arith, bit-small c, bit-small s, bit-small d, bit-small t))

  stands₃ : stands 3 n ≡ t
  stands₃ = stands_is 3 n t (omega (arith, bit-small c, bit-small s, bit-small d, bit-small t))

  stands₄ : (b : Bool) → q % 2 ≡ bit b → stands 4 n ≡ b
  stands₄ b e = stands_is 4 n b (omega (arith, bit-small c, bit-small s, bit-small d, bit-small t))

  stands₅ : (b : Bool) → q / 2 ≡ bit b → stands 5 n ≡ b
  stands₅ b e = stands_is 5 n b (omega (arith, bit-small c, bit-small s, bit-small d, bit-small t))

  small : n < 64
  small = omega (arith, bit-small c, bit-small s, bit-small d, bit-small t)

  tells : (part : List ℕ) (b₄ b₅ : Bool) → q % 2 ≡ bit b₄ → q / 2 ≡ bit b₅ → (when b₄ then 1 else when b₅ then 2 else 0) ≡ length part → not (b₄ && b₅) ≡ true → Tells n c s d t part
  unfolding good_bits part_letters
  tells part b₄ b₅ e₄ e₅ e g = record {
    coef = stands₀;
    scalars = stands₁;
    dots = stands₂;
    triples = stands₃;
    letters = simp (stands₄ b₄ e₄, stands₅ b₅ e₅) e;
    good = simp (lt-ltb n 64 small, stands₄ b₄ e₄, stands₅ b₅ e₅) g;
  }

-- a bit map tells its fields
pub bit_map-tells : (c s d t : Bool) (part : List ℕ) → length part ≤ 2 → Tells (bit_map c s d t part) c s d t part
unfolding part_bit
bit_map-tells c s d t [] l = tells c s d t _ 0 refl (omega arith) [] false false refl refl refl refl
bit_map-tells c s d t (a ∷ []) l = tells c s d t _ 1 refl (omega arith) (a ∷ []) true false refl refl refl refl
bit_map-tells c s d t (a ∷ b ∷ []) l = tells c s d t _ 2 refl (omega arith) (a ∷ b ∷ []) false true refl refl refl refl
bit_map-tells c s d t (a ∷ b ∷ e ∷ part) l = absurd (omega arith)

binary : (n : ℕ) → n < 64 → n ≡ n / 1 % 2 * 1 + n / 2 % 2 * 2 + n / 4 % 2 * 4 + n / 8 % 2 * 8 + (n / 16 % 2 * 16 + n / 32 % 2 * 32)
binary n h =
    let e₀ : n ≡ n / 2 * 2 + n / 1 % 2 = omega arith in
    let e₁ : n / 2 ≡ n / 4 * 2 + n / 2 % 2 = omega arith in
    let e₂ : n / 4 ≡ n / 8 * 2 + n / 4 % 2 = omega arith in
    let e₃ : n / 8 ≡ n / 16 * 2 + n / 8 % 2 = omega arith in
    let e₄ : n / 16 ≡ n / 32 * 2 + n / 16 % 2 = omega arith in
    let e₅ : n / 32 ≡ n / 32 % 2 = omega arith in
    omega arith

part_bit_lem : (n : ℕ) (part : List ℕ) → not (stands 4 n && stands 5 n) ≡ true → length part ≡ part_letters n
    → bit (stands 4 n) * 16 + bit (stands 5 n) * 32 ≡ part_bit part
unfolding part_letters part_bit
part_bit_lem n part g l = go (stands 4 n) refl (stands 5 n) refl
  where
    go : (b₄ : Bool) → stands 4 n ≡ b₄ → (b₅ : Bool) → stands 5 n ≡ b₅ → bit (stands 4 n) * 16 + bit (stands 5 n) * 32 ≡ part_bit part
    go true e₄ true e₅ = absurd (false≢true (simp (e₄, e₅) at g))
    go true e₄ false e₅ = simp (l, e₄, e₅)
    go false e₄ true e₅ = simp (l, e₄, e₅)
    go false e₄ false e₅ = simp (l, e₄, e₅)

-- a good byte is the bit map of the fields that it tells
pub bit_map_of : (n : ℕ) (part : List ℕ) → T (good_bits n) → length part ≡ part_letters n → n ≡ bit_map (stands 0 n) (stands 1 n) (stands 2 n) (stands 3 n) part
unfolding good_bits
bit_map_of n part g l =
    let w = and_split (ltb n 64) (not (stands 4 n && stands 5 n)) g in
    omega (
      arith,
      binary n (ltb→lt n 64 w.0),
      part_bit_lem n part (is_true (not (stands 4 n && stands 5 n)) w.1) l,
      stands-bit 0 n,
      stands-bit 1 n,
      stands-bit 2 n,
      stands-bit 3 n,
      stands-bit 4 n,
      stands-bit 5 n,
    )
