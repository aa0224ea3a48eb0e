-- Insertion, sum, product and negation of polynomials have the values that they should, and yield strictly ascending keys and no coefficient 0. Assumes nothing.
use Rattle.std.specs.Prelude.{◌≡◌, ◌⊎◌, cond, leb, ℤ, pos, negsuc, neg_ℤ, ◌+ℤ◌, ◌*ℤ◌}
use Rattle.std.proofs.Math.Path.{refl, sym}
use Rattle.std.proofs.Common.{◌∙◌, ap, inl, inr, arith}
use mathlib.Core.List.{List, [], ◌∷◌}
use Prim.Native.Nat.compare
use Prim.Native.Nat.{ℕ, zero, suc, ◌<◌, compare, Ordering}
use Rattle.std.proofs.Math.IntN as I
use Rattle.algebra.specs.Conditions.{cond_either}
use Rattle.algebra.specs.Integers.{NonZero, pos-nonzero, negsuc-nonzero}
use Rattle.algebra.specs.Integers as R
use Rattle.algebra.specs.Polynomials.{Key, Poly, put, place, insert, add, ins_var, mul_key, mul_term, mul, neg, gather, weigh, key_v, value, Lt, KView, kview, Lt-trans, Below, Sorted, nil, term, klt, keq, kgt}

-- ════ each operation has the value that it should

module _ (w : Key → ℤ) where
  put-weigh : (k : Key) (c : ℤ) (p : Poly) → weigh w (put k c p) ≡ c *ℤ w k +ℤ weigh w p
  unfolding put weigh
  put-weigh k (pos zero) p = simp (I.zero-*ℤ, I.+ℤ_idl)
  put-weigh k (pos (suc n)) p = refl
  put-weigh k (negsuc n) p = refl

  place-weigh : {k l : Key} {o : Ordering} → KView k l o → (c d : ℤ) (p r : Poly)
      → weigh w r ≡ c *ℤ w k +ℤ (d *ℤ w l +ℤ weigh w p) → weigh w (place o k c l d p r) ≡ c *ℤ w k +ℤ (d *ℤ w l +ℤ weigh w p)
  unfolding place weigh
  place-weigh {k} {l} (klt h) c d p r e = put-weigh k c (term l d p)
  place-weigh {k} {l} (keq h) c d p r e = simp (h, put-weigh, R.+ℤ-*ℤ, I.+ℤ_assoc)
  place-weigh (kgt h) c d p r e = e

  -- what is inserted counts with the weight of its key
  pub insert-weigh : (k : Key) (c : ℤ) (p : Poly) → weigh w (insert k c p) ≡ c *ℤ w k +ℤ weigh w p
  unfolding insert weigh
  insert-weigh k c nil = put-weigh k c nil
  insert-weigh k c (term l d p) =
      place-weigh (kview k l) c d p (term l d (insert k c p))
      (rw (insert-weigh k c p) (R.+ℤ_left_comm (d *ℤ w l) (c *ℤ w k) (weigh w p)))

module _ (σ : ℕ → ℤ) where
  -- the value of c k in front of p is c k + p
  pub put_value : (k : Key) (c : ℤ) (p : Poly) → value σ (put k c p) ≡ c *ℤ key_v σ k +ℤ value σ p
  unfolding value
  put_value k c p = put-weigh (key_v σ) k c p

  -- and so is that of c k inserted
  pub insert_value : (k : Key) (c : ℤ) (p : Poly) → value σ (insert k c p) ≡ c *ℤ key_v σ k +ℤ value σ p
  unfolding value
  insert_value k c p = insert-weigh (key_v σ) k c p

  -- gathering keeps the value
  pub gather_value : (p : Poly) → value σ (gather p) ≡ value σ p
  unfolding gather value
  gather_value nil = refl
  gather_value (term k c p) = simp (insert_value, gather_value p)

  -- a sum has the sum of the values
  pub add_value : (p q : Poly) → value σ (add p q) ≡ value σ p +ℤ value σ q
  unfolding add value
  add_value nil q = sym (I.+ℤ_idl (value σ q))
  add_value (term k c p) q = simp (insert_value, add_value p q, I.+ℤ_assoc)

  ins_var_value : (x : ℕ) (k : Key) → key_v σ (ins_var x k) ≡ σ x *ℤ key_v σ k
  unfolding ins_var key_v
  ins_var_value x [] = refl
  ins_var_value x (y ∷ k) =
      cond_either (leb x y) (x ∷ y ∷ k) (y ∷ ins_var x k) (λ l. key_v σ l ≡ σ x *ℤ (σ y *ℤ key_v σ k)) (λ t. refl)
      (λ t. rw (ins_var_value x k) (R.*ℤ_left_comm (σ y) (σ x) (key_v σ k)))

  -- a product of keys has the product of their values
  pub mul_key_value : (k l : Key) → key_v σ (mul_key k l) ≡ key_v σ k *ℤ key_v σ l
  unfolding mul_key key_v
  mul_key_value [] l = sym (R.one_*ℤ (key_v σ l))
  mul_key_value (x ∷ k) l = simp (ins_var_value, mul_key_value k l, R.*ℤ_assoc)

  mul_term_value : (k : Key) (c : ℤ) (q acc : Poly) → value σ (mul_term k c q acc) ≡ (c *ℤ key_v σ k) *ℤ value σ q +ℤ value σ acc
  unfolding mul_term value
  mul_term_value k c nil acc = simp (I.*ℤ-zero, I.+ℤ_idl)
  mul_term_value k c (term l d q) acc = simp (insert_value, mul_key_value, mul_term_value k c q acc, R.*ℤ_interchange c d, R.*ℤ-+ℤ, I.+ℤ_assoc)

  -- and so has a product of polynomials
  pub mul_value : (p q : Poly) → value σ (mul p q) ≡ value σ p *ℤ value σ q
  unfolding mul value
  mul_value nil q = sym (I.zero-*ℤ (value σ q))
  mul_value (term k c p) q = simp (mul_term_value, mul_value p q, R.+ℤ-*ℤ)

  -- negation negates the value
  pub neg_value : (p : Poly) → value σ (neg p) ≡ neg_ℤ (value σ p)
  unfolding neg value
  neg_value nil = refl
  neg_value (term k c p) = simp (R.neg_*ℤ, neg_value p, I.neg_ℤ-+ℤ)

-- ════ gathered polynomials

below-trans : (k l : Key) (p : Poly) → Lt k l → Below l p → Below k p
below-trans k l nil h b = tt
below-trans k l (term m d p) h b = Lt-trans k l m h b

-- a term in front of later ones, all gathered, is gathered
pub put-sorted : (k : Key) (c : ℤ) (p : Poly) → Below k p → Sorted p → Sorted (put k c p)
unfolding put
put-sorted k (pos zero) p b s = s
put-sorted k (pos (suc n)) p b s = (pos-nonzero n, b, s)
put-sorted k (negsuc n) p b s = (negsuc-nonzero n, b, s)

put_below : (m k : Key) (c : ℤ) (p : Poly) → Lt m k → Below k p → Below m (put k c p)
unfolding put
put_below m k (pos zero) p h b = below-trans m k p h b
put_below m k (pos (suc n)) p h b = h
put_below m k (negsuc n) p h b = h

place-below : (m : Key) {k l : Key} {o : Ordering} → KView k l o → (c d : ℤ) (p r : Poly)
    → Lt m k → Lt m l → Below l p → Below m r → Below m (place o k c l d p r)
unfolding place
place-below m {k} {l} (klt h) c d p r mk ml b br = put_below m k c (term l d p) mk h
place-below m {k} {l} (keq h) c d p r mk ml b br = put_below m l (c +ℤ d) p ml b
place-below m (kgt h) c d p r mk ml b br = br

insert-below : (m k : Key) (c : ℤ) (p : Poly) → Lt m k → Below m p → Sorted p → Below m (insert k c p)
unfolding insert
insert-below m k c nil mk b s = put_below m k c nil mk tt
insert-below m k c (term l d p) mk b s = place-below m (kview k l) c d p (term l d (insert k c p)) mk b s.1 b

place-sorted : {k l : Key} {o : Ordering} → KView k l o → (c d : ℤ) (p q : Poly)
    → Sorted (term l d p) → (Lt l k → Below l q) → Sorted q → Sorted (place o k c l d p (term l d q))
unfolding place
place-sorted {k} {l} (klt h) c d p q s bq sq = put-sorted k c (term l d p) h s
place-sorted {k} {l} (keq h) c d p q s bq sq = put-sorted l (c +ℤ d) p s.1 s.2
place-sorted (kgt h) c d p q s bq sq = (s.0, bq h, sq)

-- insertion keeps a polynomial gathered
pub insert-sorted : (k : Key) (c : ℤ) (p : Poly) → Sorted p → Sorted (insert k c p)
unfolding insert
insert-sorted k c nil s = put-sorted k c nil tt tt
insert-sorted k c (term l d p) s =
    place-sorted (kview k l) c d p (insert k c p) s (λ h. insert-below l k c p h s.1 s.2) (insert-sorted k c p s.2)

-- gathering gathers
pub gather-sorted : (p : Poly) → Sorted (gather p)
unfolding gather
gather-sorted nil = tt
gather-sorted (term k c p) = insert-sorted k c (gather p) (gather-sorted p)

-- a sum is gathered where the second summand is
pub add-sorted : (p q : Poly) → Sorted q → Sorted (add p q)
unfolding add
add-sorted nil q s = s
add-sorted (term k c p) q s = insert-sorted k c (add p q) (add-sorted p q s)

mul_term-sorted : (k : Key) (c : ℤ) (q acc : Poly) → Sorted acc → Sorted (mul_term k c q acc)
unfolding mul_term
mul_term-sorted k c nil acc s = s
mul_term-sorted k c (term l d q) acc s = insert-sorted (mul_key k l) (c *ℤ d) (mul_term k c q acc) (mul_term-sorted k c q acc s)

-- a product is gathered
pub mul-sorted : (p q : Poly) → Sorted (mul p q)
unfolding mul
mul-sorted nil q = tt
mul-sorted (term k c p) q = mul_term-sorted k c q (mul p q) (mul-sorted p q)

neg-below : (k : Key) (p : Poly) → Below k p → Below k (neg p)
unfolding neg
neg-below k nil b = tt
neg-below k (term l d p) b = b

-- and so is the negative of what is gathered
pub neg-sorted : (p : Poly) → Sorted p → Sorted (neg p)
unfolding neg
neg-sorted nil s = tt
neg-sorted (term k c p) s = (λ e. s.0 (sym (I.neg_ℤ-neg_ℤ c) ∙ ap neg_ℤ e), neg-below k p s.1, neg-sorted p s.2)
