-- Vectors of three integers: the laws of a module over the integers, component by component. Assumes nothing.
use Rattle.std.specs.Prelude.{◌≡◌, ℤ, pos, negsuc, ◌+ℤ◌, ◌-ℤ◌, ◌*ℤ◌}
use Rattle.std.proofs.Common.{sym, ◌∙◌, ap}
use Rattle.std.proofs.Math.IntN as I
use Rattle.algebra.specs.Integers as R
use Rattle.specification.specs.Values.{Vec, scalar_value, ◌+v◌, ◌-v◌, ◌•◌}

-- vectors are equal by their components
pub by-components : {a b : Vec} → a.x ≡ b.x → a.y ≡ b.y → a.z ≡ b.z → a ≡ b
by-components p q r = λ i. record { x = p i; y = q i; z = r i }

-- ════ the laws of a module

pub +v_assoc : (a b c : Vec) → (a +v b) +v c ≡ a +v (b +v c)
+v_assoc a b c =
    by-components (I.+ℤ_assoc a.x b.x c.x) (I.+ℤ_assoc a.y b.y c.y) (I.+ℤ_assoc a.z b.z c.z)

pub zero_+v : (a : Vec) → scalar_value (pos 0) +v a ≡ a
zero_+v a = by-components (I.+ℤ_idl a.x) (I.+ℤ_idl a.y) (I.+ℤ_idl a.z)

pub +v_zero : (a : Vec) → a +v scalar_value (pos 0) ≡ a
+v_zero a = by-components (I.+ℤ_idr a.x) (I.+ℤ_idr a.y) (I.+ℤ_idr a.z)

pub +v_negated : (a : Vec) → a +v negsuc 0 • a ≡ scalar_value (pos 0)
+v_negated a = by-components (component a.x) (component a.y) (component a.z)
  where
    component : (x : ℤ) → x +ℤ negsuc 0 *ℤ x ≡ pos 0
    component x = ap (λ (y : ℤ). x +ℤ y) (R.neg_one_*ℤ x) ∙ I.+ℤ_invr x

pub -v-is : (a b : Vec) → a -v b ≡ a +v negsuc 0 • b
-v-is a b = by-components (component a.x b.x) (component a.y b.y) (component a.z b.z)
  where
    component : (x y : ℤ) → x -ℤ y ≡ x +ℤ negsuc 0 *ℤ y
    component x y = ap (λ (z : ℤ). x +ℤ z) (sym (R.neg_one_*ℤ y))

pub one_• : (a : Vec) → pos 1 • a ≡ a
one_• a = by-components (R.one_*ℤ a.x) (R.one_*ℤ a.y) (R.one_*ℤ a.z)

pub zero_• : (a : Vec) → pos 0 • a ≡ scalar_value (pos 0)
zero_• a = by-components (I.zero-*ℤ a.x) (I.zero-*ℤ a.y) (I.zero-*ℤ a.z)

pub •_zero : (k : ℤ) → k • scalar_value (pos 0) ≡ scalar_value (pos 0)
•_zero k = by-components (I.*ℤ-zero k) (I.*ℤ-zero k) (I.*ℤ-zero k)

pub •-• : (k l : ℤ) (a : Vec) → k • (l • a) ≡ (k *ℤ l) • a
•-• k l a = sym (by-components (R.*ℤ_assoc k l a.x) (R.*ℤ_assoc k l a.y) (R.*ℤ_assoc k l a.z))

pub +-• : (k l : ℤ) (a : Vec) → (k +ℤ l) • a ≡ k • a +v l • a
+-• k l a = by-components (R.+ℤ-*ℤ k l a.x) (R.+ℤ-*ℤ k l a.y) (R.+ℤ-*ℤ k l a.z)

pub •-+ : (k : ℤ) (a b : Vec) → k • (a +v b) ≡ k • a +v k • b
•-+ k a b = by-components (R.*ℤ-+ℤ k a.x b.x) (R.*ℤ-+ℤ k a.y b.y) (R.*ℤ-+ℤ k a.z b.z)
