-- Sparse polynomials over ℤ: a key is an ascending list of variables, a polynomial a list of keys with coefficients. Assumes nothing.
use Rattle.std.specs.Prelude.{◌≡◌, ◌⊎◌, cond, leb, ℤ, pos, negsuc, neg_ℤ, ◌+ℤ◌, ◌*ℤ◌}
use Rattle.std.proofs.Math.Path.{refl, sym}
use Rattle.std.proofs.Common.{◌∙◌, ap, inl, inr, arith}
use mathlib.Core.List.{List, [], ◌∷◌}
use Prim.Native.Nat.compare
use Prim.Native.Nat.{ℕ, zero, suc, ◌<◌, compare, Ordering}
use Rattle.std.proofs.Math.IntN as I
use Rattle.algebra.specs.Conditions.{cond_either}
use Rattle.algebra.specs.Integers.{NonZero, pos-nonzero, negsuc-nonzero}
use Rattle.algebra.specs.Integers as R

-- a product of variables, by their numbers
abbrev pub Key : Type 0
Key = List ℕ

-- a sum of keys with their coefficients
pub data Poly : Type 0 where
  nil : Poly
  term : Key → ℤ → Poly → Poly

-- ════ the operations

-- the order of two keys: lexicographic
unfoldable pub cmp_k : Key → Key → Ordering
cmp_k [] [] = Ordering.eq
cmp_k [] (y ∷ l) = Ordering.lt
cmp_k (x ∷ k) [] = Ordering.gt
cmp_k (x ∷ k) (y ∷ l) = elim (compare x y) [ Ordering.lt ↦ Ordering.lt | Ordering.eq ↦ cmp_k k l | Ordering.gt ↦ Ordering.gt ]

-- a term in front, unless its coefficient is 0
unfoldable pub put : Key → ℤ → Poly → Poly
put k (pos zero) p = p
put k (pos (suc n)) p = term k (pos (suc n)) p
put k (negsuc n) p = term k (negsuc n) p

-- c k against the first term d l, by the order of k and l: before it, gathered with it, or after it, where r is what that yields
unfoldable pub place : Ordering → Key → ℤ → Key → ℤ → Poly → Poly → Poly
place Ordering.lt k c l d p r = put k c (term l d p)
place Ordering.eq k c l d p r = put l (c +ℤ d) p
place Ordering.gt k c l d p r = r

-- c k + p
unfoldable pub insert : Key → ℤ → Poly → Poly
insert k c nil = put k c nil
insert k c (term l d p) = let r = term l d (insert k c p) in place (cmp_k k l) k c l d p r

-- p + q
unfoldable pub add : Poly → Poly → Poly
add nil q = q
add (term k c p) q = insert k c (add p q)

-- the key with one more x
unfoldable pub ins_var : ℕ → Key → Key
ins_var x [] = x ∷ []
ins_var x (y ∷ k) = let r = y ∷ ins_var x k in cond (leb x y) (x ∷ y ∷ k) r

-- the product of two keys
unfoldable pub mul_key : Key → Key → Key
mul_key [] l = l
mul_key (x ∷ k) l = ins_var x (mul_key k l)

-- c k q + acc
unfoldable pub mul_term : Key → ℤ → Poly → Poly → Poly
mul_term k c nil acc = acc
mul_term k c (term l d q) acc = insert (mul_key k l) (c *ℤ d) (mul_term k c q acc)

-- p q
unfoldable pub mul : Poly → Poly → Poly
mul nil q = nil
mul (term k c p) q = mul_term k c q (mul p q)

-- − p
unfoldable pub neg : Poly → Poly
neg nil = nil
neg (term k c p) = term k (neg_ℤ c) (neg p)

-- p with its like terms gathered
unfoldable pub gather : Poly → Poly
gather nil = nil
gather (term k c p) = insert k c (gather p)

-- ════ values

-- the sum of the coefficients, each times the weight w of its key
unfoldable pub weigh : (Key → ℤ) → Poly → ℤ
weigh w nil = pos 0
weigh w (term k c p) = c *ℤ w k +ℤ weigh w p

-- the value of a key where each variable x has the value σ x
unfoldable pub key_v : (ℕ → ℤ) → Key → ℤ
key_v σ [] = pos 1
key_v σ (x ∷ k) = σ x *ℤ key_v σ k

-- the value of a polynomial there
unfoldable pub value : (ℕ → ℤ) → Poly → ℤ
unfolding weigh
value σ p = weigh (key_v σ) p

-- a polynomial without terms is 0 everywhere
pub vanishes : (σ : ℕ → ℤ) (p : Poly) → p ≡ nil → value σ p ≡ pos 0
unfolding value
vanishes σ p e = ap (value σ) e

-- ════ the order of keys

-- how two numbers compare, with the reason
data View (x y : ℕ) : Ordering → Type 0 where
  vlt : x < y → View x y Ordering.lt
  veq : x ≡ y → View x y Ordering.eq
  vgt : y < x → View x y Ordering.gt

view-suc : {x y : ℕ} {o : Ordering} → View x y o → View (suc x) (suc y) o
view-suc (vlt h) = vlt (omega arith)
view-suc (veq h) = veq (ap suc h)
view-suc (vgt h) = vgt (omega arith)

view : (x y : ℕ) → View x y (compare x y)
view zero zero = rw compare.zero-zero (veq refl)
view zero (suc y) = rw compare.zero-suc (vlt (omega arith))
view (suc x) zero = rw compare.suc-zero (vgt (omega arith))
view (suc x) (suc y) = rw compare.suc-suc (view-suc (view x y))

-- k stands before l
abbrev pub Lt : Key → Key → Type 0
Lt [] [] = ⊥
Lt [] (y ∷ l) = Unit {0}
Lt (x ∷ k) [] = ⊥
Lt (x ∷ k) (y ∷ l) = (x < y) ⊎ ((x ≡ y) × Lt k l)

-- how two keys compare, with the reason
pub data KView (k l : Key) : Ordering → Type 0 where
  klt : Lt k l → KView k l Ordering.lt
  keq : k ≡ l → KView k l Ordering.eq
  kgt : Lt l k → KView k l Ordering.gt

kview-tail : (x y : ℕ) (k l : Key) → x ≡ y → {o : Ordering} → KView k l o → KView (x ∷ k) (y ∷ l) o
kview-tail x y k l e (klt h) = klt (inr (e, h))
kview-tail x y k l e (keq h) = keq (cc)
kview-tail x y k l e (kgt h) = kgt (inr (sym e, h))

kview-cons : (x y : ℕ) (k l : Key) {o : Ordering} → View x y o → (r : Ordering) → KView k l r
    → KView (x ∷ k) (y ∷ l) (elim o [ Ordering.lt ↦ Ordering.lt | Ordering.eq ↦ r | Ordering.gt ↦ Ordering.gt ])
kview-cons x y k l (vlt h) r v = klt (inl h)
kview-cons x y k l (veq h) r v = kview-tail x y k l h v
kview-cons x y k l (vgt h) r v = kgt (inl h)

-- the comparison tells the order
pub kview : (k l : Key) → KView k l (cmp_k k l)
unfolding cmp_k
kview [] [] = keq refl
kview [] (y ∷ l) = klt tt
kview (x ∷ k) [] = kgt tt
kview (x ∷ k) (y ∷ l) = kview-cons x y k l (view x y) (cmp_k k l) (kview k l)

-- the order of keys is transitive
pub Lt-trans : (k l m : Key) → Lt k l → Lt l m → Lt k m
Lt-trans [] [] m h g = absurd h
Lt-trans [] (y ∷ l) [] h g = g
Lt-trans [] (y ∷ l) (z ∷ m) h g = tt
Lt-trans (x ∷ k) [] m h g = absurd h
Lt-trans (x ∷ k) (y ∷ l) [] h g = g
Lt-trans (x ∷ k) (y ∷ l) (z ∷ m) (inl h) (inl g) = inl (omega arith)
Lt-trans (x ∷ k) (y ∷ l) (z ∷ m) (inl h) (inr g) = inl (omega arith)
Lt-trans (x ∷ k) (y ∷ l) (z ∷ m) (inr h) (inl g) = inl (omega arith)
Lt-trans (x ∷ k) (y ∷ l) (z ∷ m) (inr h) (inr g) = inr (omega arith, Lt-trans k l m h.1 g.1)

-- ════ gathered polynomials

-- k stands before the first key of p
abbrev pub Below : Key → Poly → Type 0
Below k nil = Unit {0}
Below k (term l d p) = Lt k l

-- p is gathered: its keys ascend strictly and no coefficient is 0
abbrev pub Sorted : Poly → Type 0
Sorted nil = Unit {0}
Sorted (term k c p) = NonZero c × Below k p × Sorted p
