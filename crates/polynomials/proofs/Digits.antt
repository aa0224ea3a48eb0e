-- Keys as the functions work through them, from the lowest digit on: bounds, and one turn of each loop. Assumes nothing.
use mathlib.Core.Path.{◌≡◌, refl, sym, ◌∙◌, ap, subst}
use mathlib.Core.Bool.{Bool, true, false}
use mathlib.Core.Logic.{inl, inr}
use Prim.Native.Nat.{ℕ, zero, suc, ◌+◌, ◌-◌, ◌*◌, ◌/◌, ◌%◌, ◌^◌, ◌≤◌, ◌<◌}
use native.Mathlib.Nat as N
use native.Mathlib.Numerals.{add-one}
use native.Mathlib.Omega.{arith}
use lib.IntN.{pos}
use mir.Syntax.{w64}
use mir.Val.{SFits, to_z, of_z}
use Rattle.integers.proofs.Machine.{back_is}
use lib.Dec.{leb, eqb}
use borrow.Author.Tests.{eq-eqb, ne_eqb, le-leb, lt-leb}
use Rattle.algebra.specs.Numbers.{shift_small, digit-small}
use Rattle.specification.specs.Results.{when◌then◌else◌}
use Rattle.polynomials.specs.Keys.{placed, times_digit, rest, exponent, lowest}
use Rattle.polynomials.proofs.Keys.{rest_none, rest_same, rest-other, exponent_none, exponent_same, exponent-other, rest_zero, exponent_zero}

-- ════ a variable put in

-- a number with a digit put in is not less than the digit
placed_some : (n d k : ℕ) → d ≤ placed n d k
unfolding placed
placed_some zero d k = N.le_refl d
placed_some (suc n) d k = go (leb d (k % 256)) (placed_some n d (k / 256))
  where
    go : (b : Bool) → d ≤ placed n d (k / 256) → d ≤ (when b then 256 * k + d else k % 256 + 256 * placed n d (k / 256))
    go true ih = omega arith
    go false ih = omega arith

-- and has one digit more
placed-small : (n d k : ℕ) → d < 256 → k < 256 ^ n → placed n d k < 256 ^ suc n
unfolding placed
placed-small zero d k h l = h
placed-small (suc n) d k h l = go (leb d (k % 256)) (placed-small n d (k / 256) h (shift_small n k l))
  where
    go : (b : Bool) → placed n d (k / 256) < 256 ^ suc n → (when b then 256 * k + d else k % 256 + 256 * placed n d (k / 256)) < 256 ^ suc (suc n)
    go true ih = let z = digit-small (suc n) d k h l in omega arith
    go false ih = digit-small (suc n) (k % 256) (placed n d (k / 256)) (omega arith) ih

-- the whole fits 64 bits
pub whole-small : (d key : ℕ) → d < 256 → key < 2 ^ 64 → placed 7 d (key / 256) < 18446744073709551616
whole-small d key h l = placed-small 7 d (key / 256) h (omega arith)

-- what is put together so far, with `low` below the digits that are left
pub record Put (whole low place n d left : ℕ) : Type 0 where
  pub is : low + place * placed n d left ≡ whole
  pub some : 1 ≤ place

module _ (whole low place n d left : ℕ) (o : 1 ≤ d) (small : whole < 18446744073709551616) (p : Put whole low place (suc n) d left) where
  -- it ends here
  module _ (h : d ≤ left % 256) where
    put_here : placed (suc n) d left ≡ 256 * left + d
    unfolding placed
    put_here = rw (le-leb d (left % 256) h)

    -- low, then what is left with the digit put in: the whole
    pub put-ends : low + place * (256 * left + d) ≡ whole
    put-ends = ap (λ (z : ℕ). low + place * z) (sym put_here) ∙ p.is

    product_some : 256 * left + d ≤ place * (256 * left + d)
    product_some = omega (arith, N.mul-le-mul_right (256 * left + d) p.some)

    pub ends-256 : 256 * left < 18446744073709551616
    ends-256 = omega (arith, product_some, put-ends)

    pub ends-sum : 256 * left + d < 18446744073709551616
    ends-sum = omega (arith, product_some, put-ends)

    pub ends-product : place * (256 * left + d) < 18446744073709551616
    ends-product = omega (arith, put-ends)

  -- it goes on
  module _ (h : left % 256 < d) where
    put-there : placed (suc n) d left ≡ left % 256 + 256 * placed n d (left / 256)
    unfolding placed
    put-there = rw (lt-leb d (left % 256) h)

    sums : low + (place * (left % 256) + place * 256 * placed n d (left / 256)) ≡ whole
    sums =
        omega (arith, p.is, ap (λ (z : ℕ). place * z) put-there, N.mul-add place (left % 256) (256 * placed n d (left / 256)), N.mul_assoc place 256 (placed n d (left / 256)))

    pub goes-product : place * (left % 256) < 18446744073709551616
    goes-product = omega (arith, sums)

    pub goes-sum : low + place * (left % 256) < 18446744073709551616
    goes-sum = omega (arith, sums)

    pub goes-place : place * 256 < 18446744073709551616
    goes-place = omega (arith, sums, N.mul-le-mul_left (place * 256) (N.le_trans o (placed_some n d (left / 256))))

    -- one digit is passed
    pub put-goes : Put whole (low + place * (left % 256)) (place * 256) n d (left / 256)
    put-goes = record { is = omega (arith, sums); some = omega (arith, p.some) }

-- nothing is left
module _ (whole low place d left : ℕ) (small : whole < 18446744073709551616) (p : Put whole low place 0 d left) where
  -- low, then the digit: the whole
  pub put_last : low + place * d ≡ whole
  unfolding placed
  put_last = p.is

  pub last_product : place * d < 18446744073709551616
  last_product = omega (arith, put_last)

-- with i digits passed one more is left
pub put_more : (whole low place i d left : ℕ) → i < 7 → Put whole low place (7 - i) d left → Put whole low place (suc (7 - (i + 1))) d left
put_more whole low place i d left h p =
    let e : 7 - i ≡ suc (7 - (i + 1)) = omega arith in
    subst (λ (n : ℕ). Put whole low place n d left) e p

-- with all passed none is
pub put_none : (whole low place i d left : ℕ) → 7 ≤ i → Put whole low place (7 - i) d left → Put whole low place 0 d left
put_none whole low place i d left h p =
    let e : 7 - i ≡ 0 = omega arith in
    subst (λ (n : ℕ). Put whole low place n d left) e p

-- no digit is passed yet
pub put-starts : (d key : ℕ) → Put (placed 7 d (key / 256)) 0 1 7 d (key / 256)
put-starts d key = record { is = omega arith; some = N.le_refl 1 }

-- the digit 0 is no variable
pub times_none : (d key : ℕ) → d ≡ 0 → key ≡ times_digit d key
unfolding times_digit
times_none d key e = rw (eq-eqb d 0 e)

-- any other is put in
pub times_some : (d key : ℕ) → ¬ (d ≡ 0) → placed 7 d (key / 256) ≡ times_digit d key
unfolding times_digit
times_some d key e = rw (ne_eqb d 0 e)

-- ════ a variable cut off

-- so much is cut, and n digits k are left
pub record Cutting (d key k place e : ℕ) : Type 0 where
  pub n : ℕ
  pub small : k < 256 ^ n
  pub rests : rest 8 d key ≡ place * rest n d k
  pub counts : exponent 8 d key ≡ e + exponent n d k
  pub whole : place * k ≤ key
  pub some : 1 ≤ place

-- a variable stands at most as often as there are digits
pub exponent-few : (n d k : ℕ) → exponent n d k ≤ n
unfolding exponent
exponent-few zero d k = N.le_refl 0
exponent-few (suc n) d k = go (eqb (k % 256) 0) (eqb (k % 256) d) (exponent-few n d (k / 256))
  where
    go : (b c : Bool) → exponent n d (k / 256) ≤ n
        → (when b then exponent n d (k / 256) else when c then suc (exponent n d (k / 256)) else 0) ≤ suc n
    go true c ih = omega arith
    go false true ih = omega arith
    go false false ih = omega arith

two_digits : (n k : ℕ) → k < 256 ^ n → 256 ≤ k → (m : ℕ) × (n ≡ suc m)
two_digits zero k h l = absurd (omega (arith, N.pow-zero 256))
two_digits (suc m) k h l = (m, refl)

module _ (d key k place e : ℕ) (w : Cutting d key k place e) where
  -- at most 8 are counted
  pub count_few : e ≤ 8
  count_few = omega (arith, w.counts, exponent-few 8 d key)

  pub product-most : place * k ≤ key
  product-most = w.whole

  module _ (l : 256 ≤ k) where
    pub place-most : place * 256 ≤ key
    place-most = omega (arith, w.whole, N.mul-le-mul_left place l)

    abbrev m : ℕ
    m = (two_digits w.n k w.small l).0

    is_suc : w.n ≡ suc m
    is_suc = (two_digits w.n k w.small l).1

    small' : k < 256 ^ suc m
    small' = rw (← is_suc) w.small

    rests' : rest 8 d key ≡ place * rest (suc m) d k
    rests' = rw (← is_suc) w.rests

    counts' : exponent 8 d key ≡ e + exponent (suc m) d k
    counts' = rw (← is_suc) w.counts

    shorter : place * 256 * (k / 256) ≤ key
    shorter =
        let h : 256 * (k / 256) ≤ k = omega arith in
        omega (arith, N.mul_assoc place 256 (k / 256), N.mul-le-mul_left place h, w.whole)

    product : (x : ℕ) → place * (256 * x) ≡ place * 256 * x
    product x = sym (N.mul_assoc place 256 x)

    -- a digit 0 is passed
    pub cut_none : k % 256 ≡ 0 → Cutting d key (k / 256) (place * 256) e
    cut_none z =
        record {
          n = m;
          small = shift_small m k small';
          rests = rests' ∙ ap (λ (x : ℕ). place * x) (rest_none m d k z) ∙ product (rest m d (k / 256));
          counts = counts' ∙ ap (λ (x : ℕ). e + x) (exponent_none m d k z);
          whole = shorter;
          some = omega (arith, w.some);
        }

    -- the variable is cut off
    pub cut_same : ¬ (k % 256 ≡ 0) → k % 256 ≡ d → Cutting d key (k / 256) (place * 256) (e + 1)
    cut_same h z =
        record {
          n = m;
          small = shift_small m k small';
          rests = rests' ∙ ap (λ (x : ℕ). place * x) (rest_same m d k h z) ∙ product (rest m d (k / 256));
          counts = omega (arith, counts', exponent_same m d k h z);
          whole = shorter;
          some = omega (arith, w.some);
        }

    -- another variable ends it
    pub cut-other : ¬ (k % 256 ≡ 0) → ¬ (k % 256 ≡ d) → (place * k ≡ rest 8 d key) × (e ≡ exponent 8 d key)
    cut-other h g = (sym (rests' ∙ ap (λ (x : ℕ). place * x) (rest-other m d k h g)), omega (arith, counts', exponent-other m d k h g))

  -- one digit is left
  module _ (l : k < 256) where
    -- the variable is the last digit
    pub cut_last : 1 ≤ d → k ≡ d → (0 ≡ rest 8 d key) × (e + 1 ≡ exponent 8 d key)
    cut_last o z = go w.n w.small w.rests w.counts
      where
        go : (n : ℕ) → k < 256 ^ n → rest 8 d key ≡ place * rest n d k → exponent 8 d key ≡ e + exponent n d k → (0 ≡ rest 8 d key) × (e + 1 ≡ exponent 8 d key)
        go zero s p q = absurd (omega (arith, N.pow-zero 256))
        go (suc n) s p q =
            let y : k / 256 ≡ 0 = omega arith in
            let x : k % 256 ≡ d = omega arith in
            let u : ¬ (k % 256 ≡ 0) = λ t. omega arith in
            let a : rest (suc n) d k ≡ 0 = rest_same n d k u x ∙ ap (λ (t : ℕ). 256 * rest n d t) y ∙ ap (λ (t : ℕ). 256 * t) (rest_zero n d) in
            let b : exponent (suc n) d k ≡ 1 = exponent_same n d k u x ∙ ap (λ (t : ℕ). suc (exponent n d t)) y ∙ ap suc (exponent_zero n d) in
            (sym (p ∙ ap (λ (t : ℕ). place * t) a ∙ N.mul-zero place), omega (arith, q, b))

    -- or the last digit stays
    pub cut-kept : ¬ (k ≡ d) → (place * k ≡ rest 8 d key) × (e ≡ exponent 8 d key)
    cut-kept z = go w.n w.small w.rests w.counts
      where
        null : (n : ℕ) → k ≡ 0 → (rest n d k ≡ k) × (exponent n d k ≡ 0)
        null n t = (ap (rest n d) t ∙ rest_zero n d ∙ sym t, ap (exponent n d) t ∙ exponent_zero n d)

        both : (n : ℕ) → k < 256 ^ n → (rest n d k ≡ k) × (exponent n d k ≡ 0)
        both zero s = null zero (omega (arith, N.pow-zero 256))
        both (suc n) s =
            elim (N.eq-zero-or-pos k) [
              | inl t ↦ null (suc n) t
              | inr t ↦ (rest-other n d k (λ x. omega arith) (λ x. z (omega arith)), exponent-other n d k (λ x. omega arith) (λ x. z (omega arith)))
            ]

        go : (n : ℕ) → k < 256 ^ n → rest 8 d key ≡ place * rest n d k → exponent 8 d key ≡ e + exponent n d k → (place * k ≡ rest 8 d key) × (e ≡ exponent 8 d key)
        go n s p q = (sym (p ∙ ap (λ (x : ℕ). place * x) (both n s).0), omega (arith, q, (both n s).1))

-- nothing is cut yet
pub cut-starts : (d key : ℕ) → key < 2 ^ 64 → Cutting d key key 1 0
cut-starts d key h =
    record { n = 8; small = h; rests = omega arith; counts = omega arith; whole = omega arith; some = N.le_refl 1 }

-- ════ the lowest digit

-- the lowest digit of the key is that of the n digits k
pub record Seeking (key k : ℕ) : Type 0 where
  pub n : ℕ
  pub small : k < 256 ^ n
  pub is : lowest 8 key ≡ lowest n k

lowest_none : (n : ℕ) → lowest n 0 ≡ 0
unfolding lowest
lowest_none zero = refl
lowest_none (suc n) = lowest_none n

-- no digit is passed yet
pub seek-starts : (key : ℕ) → key < 2 ^ 64 → Seeking key key
seek-starts key h = record { n = 8; small = h; is = refl }

module _ (key k : ℕ) (w : Seeking key k) where
  -- a digit 0 is passed
  pub seek_on : ¬ (k ≡ 0) → k % 256 ≡ 0 → Seeking key (k / 256)
  unfolding lowest
  seek_on h z = go w.n w.small w.is
    where
      go : (n : ℕ) → k < 256 ^ n → lowest 8 key ≡ lowest n k → Seeking key (k / 256)
      go zero s p = absurd (h (omega (arith, N.pow-zero 256)))
      go (suc n) s p = record { n = n; small = shift_small n k s; is = p ∙ rw (eq-eqb (k % 256) 0 z) }

  -- another is the lowest
  pub seek_found : ¬ (k % 256 ≡ 0) → k % 256 ≡ lowest 8 key
  unfolding lowest
  seek_found z = go w.n w.small w.is
    where
      go : (n : ℕ) → k < 256 ^ n → lowest 8 key ≡ lowest n k → k % 256 ≡ lowest 8 key
      go zero s p = let t : k ≡ 0 = omega (arith, N.pow-zero 256) in absurd (z (omega arith))
      go (suc n) s p = sym (p ∙ rw (ne_eqb (k % 256) 0 z))

  -- no digit is left
  pub seek-nothing : k ≡ 0 → 0 ≡ lowest 8 key
  seek-nothing z = sym (w.is ∙ ap (lowest w.n) z ∙ lowest_none w.n)

-- ════ powers

-- 6 to the power 8 is the largest
pub power_small : (v i : ℕ) → v ≤ 6 → i ≤ 8 → v ^ i ≤ 1679616
power_small v i h l = N.le_trans (N.pow-le-pow_left h i) (N.pow-le-pow_right {n = 6} (omega arith) l)

-- one more factor
pub power_more : (p v i : ℕ) → p ≡ v ^ i → p * v ≡ v ^ (i + 1)
power_more p v i e = ap (λ (z : ℕ). z * v) e ∙ sym (ap (λ (z : ℕ). v ^ z) (add-one i) ∙ N.pow-suc v i)

pub suc-most : (i e : ℕ) → i < e → e ≤ 8 → i + 1 ≤ 8
suc-most i e h l = omega arith

-- a number that is not 0 is at least 1
pub nonzero : {d : ℕ} → ¬ (d ≡ 0) → 1 ≤ d
nonzero {d} h = omega arith

-- the same with another name for the count
pub counted_as : {d key k place e e' : ℕ} → e ≡ e' → Cutting d key k place e' → Cutting d key k place e
counted_as {d} {key} {k} {place} p w = subst (λ (x : ℕ). Cutting d key k place x) (sym p) w

module _ (v e : ℕ) (h : v ≤ 6) (l : e ≤ 8) (p i : ℕ) where
  -- it fits 64 bits
  pub power-fits : i ≤ e → p ≡ v ^ i → SFits w64 (pos p)
  power-fits g q = record { sfits = omega (arith, power_small v i h (N.le_trans g l)) }

  -- and is the power once all factors are there
  pub power-is : e ≤ i → i ≤ e → p ≡ v ^ i → to_z w64 (of_z w64 (pos p)) ≡ pos (v ^ e)
  power-is f g q = let z : i ≡ e = omega arith in back_is (power-fits g q) ∙ ap pos (q ∙ ap (λ (x : ℕ). v ^ x) z)
