-- Values under an assignment of numbers from −6 to 6 are small: a product of factors with v vector letters and s scalar letters is at most 11 ^ v · 6 ^ s in size,
-- a term at most 2 ^ 57, a form of n terms at most n times that. Assumes nothing.
use mathlib.Core.Path.{◌≡◌, refl, ap, ◌∙◌}
use mathlib.Core.Bool.{Bool, true, false, ◌||◌}
use mathlib.Core.List.{List, [], ◌∷◌}
use Prim.Native.Nat.{ℕ, zero, suc, ◌+◌, ◌-◌, ◌*◌, ◌^◌, ◌≤◌}
use native.Mathlib.Nat as N
use native.Mathlib.Omega.{arith}
use lib.Dec.{T, ltb, leb, eqb, leb→le}
use lib.IntN.{ℤ, pos, negsuc, neg_ℤ, nat_abs, ◌+ℤ◌, ◌-ℤ◌, ◌*ℤ◌}
use lib.ListN.{length, get_or}
use lib.Pow.{pow-add}
use borrow.Author.Tests.{lt-ltb, le-ltb, leb-true}
use Rattle.specification.specs.Results.{when◌then◌else◌}
use Rattle.specification.specs.Lists.{all}
use Rattle.specification.specs.Terms.{Term, coef_within, vector_letters_of, scalar_letters_of, term_in_shape}
use Rattle.specification.specs.Values.{Vec, dot, wedge}
use Rattle.specification.specs.Evaluation.{signed_byte, six_or_less, assignment, factor_value, factors_value, part_value, term_value, terms_value}
use Rattle.algebra.specs.Integers.{nat_abs_+ℤ, nat_abs_*ℤ, nat_abs-neg}
use Rattle.theory.specs.Elements.{All, all_T}
use Rattle.theory.specs.Tests.{holds}
use Rattle.theory.specs.Shape.Terms.{OneToThree, term-opens}
use Rattle.evaluation.specs.Vectors.{Within}

-- a larger bound
pub within_more : (m n : ℕ) (v : Vec) → m ≤ n → Within m v → Within n v
within_more m n v l h = record { x = omega (arith, h.x); y = omega (arith, h.y); z = omega (arith, h.z) }

-- ════ assignments

-- a byte that passes is at most 6 in size
byte_small : (b : ℕ) → T (six_or_less b) → nat_abs (signed_byte b) ≤ 6
unfolding six_or_less signed_byte
byte_small b t = go (leb b 6) refl (leb 250 b) refl t
  where
    go : (p : Bool) → leb b 6 ≡ p → (q : Bool) → leb 250 b ≡ q → T (p || q) → nat_abs (when ltb b 128 then pos b else negsuc (255 - b)) ≤ 6
    go true e q f t = let h : b ≤ 6 = leb-true b 6 e in rw (lt-ltb b 128 (omega arith)) h
    go false e true f t = let h : 250 ≤ b = leb-true 250 b f in rw (le-ltb b 128 (omega arith)) (omega arith)
    go false e false f t = absurd t

-- and so is what stands behind the end
bytes_small : (s : List ℕ) (i : ℕ) → All (λ b. T (six_or_less b)) s → nat_abs (signed_byte (get_or s i 0)) ≤ 6
unfolding six_or_less
bytes_small [] i h = byte_small 0 tt
bytes_small (b ∷ s) zero h = byte_small b h.0
bytes_small (b ∷ s) (suc i) h = bytes_small s i h.1

-- an assignment of such bytes gives small vectors
pub assignment-small : (s : List ℕ) → all six_or_less s ≡ true → (n : ℕ) → Within 6 (assignment s n)
unfolding assignment
assignment-small s e n =
    let h : All (λ b. T (six_or_less b)) s = all_T six_or_less s (holds (all six_or_less s) e) in
    record { x = bytes_small s (3 * n) h; y = bytes_small s (3 * n + 1) h; z = bytes_small s (3 * n + 2) h }

-- ════ vectors

-- a product
pub product_small : (x y : ℤ) (m n : ℕ) → nat_abs x ≤ m → nat_abs y ≤ n → nat_abs (x *ℤ y) ≤ m * n
product_small x y m n h g = rw (nat_abs_*ℤ x y) (N.mul-le-mul h g)

-- a difference
difference-small : (x y : ℤ) → nat_abs (x -ℤ y) ≤ nat_abs x + nat_abs y
difference-small x y = omega (arith, nat_abs_+ℤ x (neg_ℤ y), nat_abs-neg y)

module _ (m n : ℕ) (a b : Vec) (h : Within m a) (g : Within n b) where
  -- a dot
  pub dot-small : nat_abs (dot a b) ≤ 3 * (m * n)
  dot-small =
      let p : nat_abs (a.x *ℤ b.x) ≤ m * n = product_small a.x b.x m n h.x g.x in
      let q : nat_abs (a.y *ℤ b.y) ≤ m * n = product_small a.y b.y m n h.y g.y in
      let r : nat_abs (a.z *ℤ b.z) ≤ m * n = product_small a.z b.z m n h.z g.z in
      omega (arith, nat_abs_+ℤ (a.x *ℤ b.x +ℤ a.y *ℤ b.y) (a.z *ℤ b.z), nat_abs_+ℤ (a.x *ℤ b.x) (a.y *ℤ b.y))

  cross-small : (x y z w : ℤ) → nat_abs x ≤ m → nat_abs y ≤ n → nat_abs z ≤ m → nat_abs w ≤ n → nat_abs (x *ℤ y -ℤ z *ℤ w) ≤ 2 * (m * n)
  cross-small x y z w hx hy hz hw =
      let p : nat_abs (x *ℤ y) ≤ m * n = product_small x y m n hx hy in
      let q : nat_abs (z *ℤ w) ≤ m * n = product_small z w m n hz hw in
      omega (arith, difference-small (x *ℤ y) (z *ℤ w))

  -- a wedge
  pub wedge-small : Within (2 * (m * n)) (wedge a b)
  wedge-small = record {
    x = cross-small a.y b.z a.z b.y h.y g.z h.z g.y;
    y = cross-small a.z b.x a.x b.z h.z g.x h.x g.z;
    z = cross-small a.x b.y a.y b.x h.x g.y h.y g.x;
  }

-- ════ forms

-- numbers of letters put together
module _ (v s w t : ℕ) where
  letters-joined : (11 ^ v * 6 ^ s) * (11 ^ w * 6 ^ t) ≡ 11 ^ (v + w) * 6 ^ (s + t)
  letters-joined = rw (pow-add 11 v w, pow-add 6 s t) (N.mul-mul-mul_comm (11 ^ v) (6 ^ s) (11 ^ w) (6 ^ t))

-- six vector letters and two scalar letters
pub letters-most : (v s : ℕ) → v ≤ 6 → s ≤ 2 → 11 ^ v * 6 ^ s ≤ 63776196
letters-most v s h g = N.mul-le-mul (N.pow-le-pow_right (omega arith) h) (N.pow-le-pow_right (omega arith) g)

module _ (σ : ℕ → Vec) (small : (n : ℕ) → Within 6 (σ n)) where
  -- a factor
  factor-small : (f : List ℕ) → OneToThree f → nat_abs (factor_value σ f) ≤ 11 ^ (when eqb (length f) 1 then 0 else length f) * 6 ^ (when eqb (length f) 1 then 1 else 0)
  unfolding factor_value
  factor-small [] o = absurd (omega (arith, o.0))
  factor-small (a ∷ []) o = omega (arith, (small a).x)
  factor-small (a ∷ b ∷ []) o = omega (arith, dot-small 6 6 (σ a) (σ b) (small a) (small b))
  factor-small (a ∷ b ∷ c ∷ []) o = omega (arith, dot-small 72 6 (wedge (σ a) (σ b)) (σ c) (wedge-small 6 6 (σ a) (σ b) (small a) (small b)) (small c))
  factor-small (a ∷ b ∷ c ∷ d ∷ f) o = absurd (omega (arith, o.1))

  -- a product of factors
  pub factors-small : (fs : List (List ℕ)) → All OneToThree fs → nat_abs (factors_value σ fs) ≤ 11 ^ vector_letters_of fs * 6 ^ scalar_letters_of fs
  unfolding factors_value vector_letters_of scalar_letters_of
  factors-small [] o = N.le_refl 1
  factors-small (f ∷ fs) o =
      rw (← letters-joined (when eqb (length f) 1 then 0 else length f) (when eqb (length f) 1 then 1 else 0) (vector_letters_of fs) (scalar_letters_of fs))
      (product_small (factor_value σ f) (factors_value σ fs) _ _ (factor-small f o.0) (factors-small fs o.1))

  -- a vector part
  pub part_small : (p : List ℕ) → length p ≤ 2 → Within (11 ^ length p) (part_value σ p)
  unfolding part_value
  part_small [] h = record { x = omega arith; y = omega arith; z = omega arith }
  part_small (a ∷ []) h = record { x = omega (arith, (small a).x); y = omega (arith, (small a).y); z = omega (arith, (small a).z) }
  part_small (a ∷ b ∷ []) h = let w = wedge-small 6 6 (σ a) (σ b) (small a) (small b) in record { x = omega (arith, w.x); y = omega (arith, w.y); z = omega (arith, w.z) }
  part_small (a ∷ b ∷ c ∷ p) h = absurd (omega arith)

  -- a term in shape
  module _ (t : Term) (h : T (term_in_shape t)) where
    -- its coefficient times its factors
    pub scalar-small : nat_abs (t.coef *ℤ factors_value σ t.factors) ≤ 2147483647 * (11 ^ vector_letters_of t.factors * 6 ^ scalar_letters_of t.factors)
    unfolding coef_within
    scalar-small =
        let o = term-opens t h in
        product_small t.coef (factors_value σ t.factors) 2147483647 _ (leb→le (nat_abs t.coef) 2147483647 o.within) (factors-small t.factors o.fits.lengths)

    component-small : (k : ℤ) → nat_abs k ≤ 11 ^ length t.part → nat_abs ((t.coef *ℤ factors_value σ t.factors) *ℤ k) ≤ 2 ^ 57
    component-small k g =
        let o = (term-opens t h).fits in
        let v = vector_letters_of t.factors in
        let s = scalar_letters_of t.factors in
        let p = product_small (t.coef *ℤ factors_value σ t.factors) k (2147483647 * (11 ^ v * 6 ^ s)) (11 ^ length t.part) scalar-small g in
        let e : 2147483647 * (11 ^ v * 6 ^ s) * 11 ^ length t.part ≡ 2147483647 * (11 ^ (v + length t.part) * 6 ^ s) =
        N.mul_assoc 2147483647 (11 ^ v * 6 ^ s) (11 ^ length t.part) ∙ rw pow-add (ap (λ (n : ℕ). 2147483647 * n) (N.mul_right_comm (11 ^ v) (6 ^ s) (11 ^ length t.part))) in
        omega (arith, p, e, letters-most (v + length t.part) s o.vectors o.scalars)

    -- its value
    pub term-small : Within (2 ^ 57) (term_value σ t)
    unfolding term_value
    term-small =
        let p = part_small t.part (term-opens t h).fits.part in
        record { x = component-small (part_value σ t.part).x p.x; y = component-small (part_value σ t.part).y p.y; z = component-small (part_value σ t.part).z p.z }

  -- terms in shape
  pub terms-small : (ts : List Term) → All (λ t. T (term_in_shape t)) ts → Within (length ts * 2 ^ 57) (terms_value σ ts)
  unfolding terms_value
  terms-small [] h = record { x = omega arith; y = omega arith; z = omega arith }
  terms-small (t ∷ ts) h =
      let p = term-small t h.0 in
      let q = terms-small ts h.1 in
      record {
        x = omega (arith, nat_abs_+ℤ (term_value σ t).x (terms_value σ ts).x, p.x, q.x);
        y = omega (arith, nat_abs_+ℤ (term_value σ t).y (terms_value σ ts).y, p.y, q.y);
        z = omega (arith, nat_abs_+ℤ (term_value σ t).z (terms_value σ ts).z, p.z, q.z);
      }
