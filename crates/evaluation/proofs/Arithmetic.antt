-- Sums and products of 64 bits as the functions on vectors make them: each fits, and read back it is the definition's. Assumes nothing.
use mathlib.Core.Path.{◌≡◌, ◌∙◌}
use Prim.Native.Nat.{◌+◌, ◌*◌, ◌^◌, ◌≤◌, ◌<◌}
use native.Mathlib.Nat as N
use native.Mathlib.Omega.{arith}
use lib.IntN.{ℤ, nat_abs, ◌+ℤ◌, ◌-ℤ◌, ◌*ℤ◌}
use mir.Syntax.{w64}
use mir.Val.{SFits}
use Rattle.specification.specs.Values.{◌+v◌, ◌•◌, dot, wedge}
use Rattle.algebra.specs.Integers.{nat_abs_+ℤ, nat_abs_*ℤ}
use Rattle.integers.proofs.Machine.{back, back_is, fits_back}
use Rattle.theory.specs.Values.Vectors.{by-components}
use Rattle.evaluation.specs.declared.vectors.Vector.{Vector}
use Rattle.evaluation.specs.Vectors.{vec_of, Within}
use Rattle.evaluation.proofs.Bounds.{product_small, wedge-small}

-- an operation on operands that are read back as they are: its result is read back
pub applied : (op : ℤ → ℤ → ℤ) {x y m : ℤ} → back x ≡ x → back y ≡ y → SFits w64 m → m ≡ op (back x) (back y) → back m ≡ op x y
applied op p q f e = back_is f ∙ e ∙ λ i. op (p i) (q i)

-- ════ sums

module _ (x y : ℤ) (h : nat_abs x ≤ 2 ^ 57) (g : nat_abs y ≤ 47 * 2 ^ 57) where
  sum-asks : nat_abs (back x) + nat_abs (back y) < 2 ^ 63
  sum-asks = rw (fits_back x (omega arith), fits_back y (omega arith)) (omega arith)

  sum_gives : (m : ℤ) → SFits w64 m → m ≡ back x +ℤ back y → back m ≡ x +ℤ y
  sum_gives m f e = applied ◌+ℤ◌ (fits_back x (omega arith)) (fits_back y (omega arith)) f e

module _ (a b : Vector) (h : Within (2 ^ 57) (vec_of a)) (g : Within (47 * 2 ^ 57) (vec_of b)) where
  pub plus-asks_x : nat_abs (back a.x) + nat_abs (back b.x) < 2 ^ 63
  unfolding vec_of
  plus-asks_x = sum-asks a.x b.x h.x g.x

  pub plus-asks-y : nat_abs (back a.y) + nat_abs (back b.y) < 2 ^ 63
  unfolding vec_of
  plus-asks-y = sum-asks a.y b.y h.y g.y

  pub plus-asks-z : nat_abs (back a.z) + nat_abs (back b.z) < 2 ^ 63
  unfolding vec_of
  plus-asks-z = sum-asks a.z b.z h.z g.z

  pub plus-gives : (m n o : ℤ) → SFits w64 m → SFits w64 n → SFits w64 o → m ≡ back a.x +ℤ back b.x → n ≡ back a.y +ℤ back b.y → o ≡ back a.z +ℤ back b.z
      → vec_of (record { x = back m; y = back n; z = back o }) ≡ vec_of a +v vec_of b
  unfolding vec_of
  plus-gives m n o f₁ f₂ f₃ e₁ e₂ e₃ =
      by-components (sum_gives a.x b.x h.x g.x m f₁ e₁) (sum_gives a.y b.y h.y g.y n f₂ e₂) (sum_gives a.z b.z h.z g.z o f₃ e₃)

-- ════ multiples

module _ (k x : ℤ) (f : SFits w64 k) (g : SFits w64 x) (h : nat_abs (k *ℤ x) ≤ 2 ^ 57) where
  multiple-asks : nat_abs (back k) * nat_abs (back x) < 2 ^ 63
  multiple-asks = rw (back_is f, back_is g) (omega (arith, nat_abs_*ℤ k x))

-- the components of a vector fit
abbrev pub Fitting : Vector → Type 0
Fitting a = SFits w64 a.x × SFits w64 a.y × SFits w64 a.z

module _ (k : ℤ) (a : Vector) (f : SFits w64 k) (g : Fitting a) (h : Within (2 ^ 57) (k • vec_of a)) where
  pub times-asks_x : nat_abs (back k) * nat_abs (back a.x) < 2 ^ 63
  unfolding vec_of
  times-asks_x = multiple-asks k a.x f g.0 h.x

  pub times-asks-y : nat_abs (back k) * nat_abs (back a.y) < 2 ^ 63
  unfolding vec_of
  times-asks-y = multiple-asks k a.y f g.1 h.y

  pub times-asks-z : nat_abs (back k) * nat_abs (back a.z) < 2 ^ 63
  unfolding vec_of
  times-asks-z = multiple-asks k a.z f g.2 h.z

  pub times-gives : (m n o : ℤ) → SFits w64 m → SFits w64 n → SFits w64 o → m ≡ back k *ℤ back a.x → n ≡ back k *ℤ back a.y → o ≡ back k *ℤ back a.z
      → vec_of (record { x = back m; y = back n; z = back o }) ≡ k • vec_of a
  unfolding vec_of
  times-gives m n o f₁ f₂ f₃ e₁ e₂ e₃ =
      by-components (applied ◌*ℤ◌ (back_is f) (back_is g.0) f₁ e₁) (applied ◌*ℤ◌ (back_is f) (back_is g.1) f₂ e₂) (applied ◌*ℤ◌ (back_is f) (back_is g.2) f₃ e₃)

-- ════ dots

module _ (x y : ℤ) (h : nat_abs x ≤ 72) (g : nat_abs y ≤ 6) where
  product-asks : nat_abs (back x) * nat_abs (back y) < 2 ^ 63
  product-asks = rw (fits_back x (omega arith), fits_back y (omega arith)) (omega (arith, N.mul-le-mul h g))

  product_gives : (m : ℤ) → SFits w64 m → m ≡ back x *ℤ back y → back m ≡ x *ℤ y
  product_gives m f e = applied ◌*ℤ◌ (fits_back x (omega arith)) (fits_back y (omega arith)) f e

  product-most : (m : ℤ) → SFits w64 m → m ≡ back x *ℤ back y → nat_abs (back m) ≤ 432
  product-most m f e = rw (product_gives m f e) (product_small x y 72 6 h g)

module _ (a b : Vector) (h : Within 72 (vec_of a)) (g : Within 6 (vec_of b)) where
  pub dot-asks_x : nat_abs (back a.x) * nat_abs (back b.x) < 2 ^ 63
  unfolding vec_of
  dot-asks_x = product-asks a.x b.x h.x g.x

  pub dot-asks-y : nat_abs (back a.y) * nat_abs (back b.y) < 2 ^ 63
  unfolding vec_of
  dot-asks-y = product-asks a.y b.y h.y g.y

  pub dot-asks-z : nat_abs (back a.z) * nat_abs (back b.z) < 2 ^ 63
  unfolding vec_of
  dot-asks-z = product-asks a.z b.z h.z g.z

  module _ (m n : ℤ) (f₁ : SFits w64 m) (f₂ : SFits w64 n) (e₁ : m ≡ back a.x *ℤ back b.x) (e₂ : n ≡ back a.y *ℤ back b.y) where
    pub dot-asks_two : nat_abs (back m) + nat_abs (back n) < 2 ^ 63
    unfolding vec_of
    dot-asks_two = omega (arith, product-most a.x b.x h.x g.x m f₁ e₁, product-most a.y b.y h.y g.y n f₂ e₂)

    module _ (o p : ℤ) (f₃ : SFits w64 o) (f₄ : SFits w64 p) (e₃ : o ≡ back a.z *ℤ back b.z) (e₄ : p ≡ back m +ℤ back n) where
      two : back p ≡ a.x *ℤ b.x +ℤ a.y *ℤ b.y
      unfolding vec_of
      two = back_is f₄ ∙ e₄ ∙ λ i. product_gives a.x b.x h.x g.x m f₁ e₁ i +ℤ product_gives a.y b.y h.y g.y n f₂ e₂ i

      pub dot-asks-three : nat_abs (back p) + nat_abs (back o) < 2 ^ 63
      unfolding vec_of
      dot-asks-three =
          let e : nat_abs (back p) ≤ nat_abs (back m) + nat_abs (back n) = rw (back_is f₄ ∙ e₄) (nat_abs_+ℤ (back m) (back n)) in
          omega (arith, product-most a.x b.x h.x g.x m f₁ e₁, product-most a.y b.y h.y g.y n f₂ e₂, product-most a.z b.z h.z g.z o f₃ e₃)

      pub dot-gives : (q : ℤ) → SFits w64 q → q ≡ back p +ℤ back o → back q ≡ dot (vec_of a) (vec_of b)
      unfolding vec_of
      dot-gives q f₅ e₅ = back_is f₅ ∙ e₅ ∙ λ i. two i +ℤ product_gives a.z b.z h.z g.z o f₃ e₃ i

-- ════ wedges

module _ (a b c d : ℤ) (h : (nat_abs a ≤ 6) × (nat_abs b ≤ 6) × (nat_abs c ≤ 6) × (nat_abs d ≤ 6)) where
  pub cross-asks_first : nat_abs (back a) * nat_abs (back b) < 2 ^ 63
  cross-asks_first = product-asks a b (omega (arith, h.0)) h.1

  pub cross-asks-second : nat_abs (back c) * nat_abs (back d) < 2 ^ 63
  cross-asks-second = product-asks c d (omega (arith, h.2)) h.3

  module _ (m n : ℤ) (f₁ : SFits w64 m) (f₂ : SFits w64 n) (e₁ : m ≡ back a *ℤ back b) (e₂ : n ≡ back c *ℤ back d) where
    pub cross-asks_both : nat_abs (back m) + nat_abs (back n) < 2 ^ 63
    cross-asks_both = omega (arith, product-most a b (omega (arith, h.0)) h.1 m f₁ e₁, product-most c d (omega (arith, h.2)) h.3 n f₂ e₂)

    pub cross-gives : (o : ℤ) → SFits w64 o → o ≡ back m -ℤ back n → back o ≡ a *ℤ b -ℤ c *ℤ d
    cross-gives o f₃ e₃ = back_is f₃ ∙ e₃ ∙ λ i. product_gives a b (omega (arith, h.0)) h.1 m f₁ e₁ i -ℤ product_gives c d (omega (arith, h.2)) h.3 n f₂ e₂ i

-- four components that are read back
six-back : (x : ℤ) → nat_abs x ≤ 6 → back x ≡ x
six-back x h = fits_back x (omega arith)

module _ (a b c d : ℤ) (h : nat_abs a ≤ 6) (g : nat_abs b ≤ 6) (i : nat_abs c ≤ 6) (j : nat_abs d ≤ 6) where
  four-asks : (nat_abs (back a) ≤ 6) × (nat_abs (back b) ≤ 6) × (nat_abs (back c) ≤ 6) × (nat_abs (back d) ≤ 6)
  four-asks = (rw (six-back a h) h, rw (six-back b g) g, rw (six-back c i) i, rw (six-back d j) j)

  four-gives : (m : ℤ) → SFits w64 m → m ≡ back a *ℤ back b -ℤ back c *ℤ back d → back m ≡ a *ℤ b -ℤ c *ℤ d
  four-gives m f e = back_is f ∙ e ∙ λ k. six-back a h k *ℤ six-back b g k -ℤ six-back c i k *ℤ six-back d j k

module _ (a b : Vector) (h : Within 6 (vec_of a)) (g : Within 6 (vec_of b)) where
  pub wedge-asks_x : (nat_abs (back a.y) ≤ 6) × (nat_abs (back b.z) ≤ 6) × (nat_abs (back a.z) ≤ 6) × (nat_abs (back b.y) ≤ 6)
  unfolding vec_of
  wedge-asks_x = four-asks a.y b.z a.z b.y h.y g.z h.z g.y

  pub wedge-asks-y : (nat_abs (back a.z) ≤ 6) × (nat_abs (back b.x) ≤ 6) × (nat_abs (back a.x) ≤ 6) × (nat_abs (back b.z) ≤ 6)
  unfolding vec_of
  wedge-asks-y = four-asks a.z b.x a.x b.z h.z g.x h.x g.z

  pub wedge-asks-z : (nat_abs (back a.x) ≤ 6) × (nat_abs (back b.y) ≤ 6) × (nat_abs (back a.y) ≤ 6) × (nat_abs (back b.x) ≤ 6)
  unfolding vec_of
  wedge-asks-z = four-asks a.x b.y a.y b.x h.x g.y h.y g.x

  pub wedge-gives : (m n o : ℤ) → SFits w64 m → SFits w64 n → SFits w64 o → m ≡ back a.y *ℤ back b.z -ℤ back a.z *ℤ back b.y
      → n ≡ back a.z *ℤ back b.x -ℤ back a.x *ℤ back b.z → o ≡ back a.x *ℤ back b.y -ℤ back a.y *ℤ back b.x
      → vec_of (record { x = back m; y = back n; z = back o }) ≡ wedge (vec_of a) (vec_of b)
  unfolding vec_of
  wedge-gives m n o f₁ f₂ f₃ e₁ e₂ e₃ =
      by-components
      (four-gives a.y b.z a.z b.y h.y g.z h.z g.y m f₁ e₁)
      (four-gives a.z b.x a.x b.z h.z g.x h.x g.z n f₂ e₂)
      (four-gives a.x b.y a.y b.x h.x g.y h.y g.x o f₃ e₃)

  -- ════ triples

  pub triple-asks : (w : Vector) → vec_of w ≡ wedge (vec_of a) (vec_of b) → Within 72 (vec_of w)
  triple-asks w e = rw e (wedge-small 6 6 (vec_of a) (vec_of b) h g)
