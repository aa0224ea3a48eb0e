-- A gathered polynomial with a term is not 0 at some assignment of small numbers: no variable needs a number above its degree.
-- By elimination of one variable after the other: by the grid lemma some number for it leaves a term. Assumes nothing.
use Rattle.std.specs.Prelude.{◌≡◌, refl, ◌⊎◌, cond, ℕ, zero, suc, ◌+◌, ◌≤◌, ◌<◌, eqb, length, ℤ, pos, ◌+ℤ◌, ◌*ℤ◌}
use Rattle.std.proofs.Math.Path.{sym, ap}
use Rattle.std.proofs.Common.{◌∙◌, subst, inl, inr, zero-le, arith, eqb→eq}
use mathlib.Core.List.{List, [], ◌∷◌}
use Rattle.std.proofs.Math.Nat as N
use Rattle.std.proofs.Math.IntN as I
use Rattle.algebra.specs.Conditions.{cond_either, eqb-self, eqb_ne}
use Rattle.algebra.specs.Integers.{NonZero, zero_or_not}
use Rattle.algebra.specs.Integers as R
use Rattle.algebra.specs.Polynomials.{Key, Poly, nil, term, insert, weigh, key_v, value, Lt, Lt-trans, Below, Sorted}
use Rattle.algebra.proofs.Polynomials.{insert-weigh, insert-sorted}
use Rattle.algebra.proofs.Grid.{eval, AllZero, grid-points}
use Rattle.algebra.proofs.Keys.{Ascending, Bounded, leading, rest, NotHead, Split, done, more, split, split-head, leading-bounded, rest-bounded, AllK, all_map, insert_all}

-- the polynomial has a term
abbrev pub NonEmpty : Poly → Type 0
NonEmpty nil = ⊥
NonEmpty (term k c p) = Unit {0}

-- ════ weights of keys

-- weights that agree on the keys of p give the same sum
weigh-agree : (P : Key → Type 0) (w u : Key → ℤ) → ((k : Key) → P k → w k ≡ u k) → (p : Poly) → AllK P p → weigh w p ≡ weigh u p
unfolding weigh
weigh-agree P w u h nil a = refl
weigh-agree P w u h (term k c p) a = λ i. c *ℤ h k a.0 i +ℤ weigh-agree P w u h p a.1 i

-- with all weights 0 the sum is 0
weigh_zero : (p : Poly) → weigh (λ k. pos 0) p ≡ pos 0
unfolding weigh
weigh_zero nil = refl
weigh_zero (term k c p) = simp (I.*ℤ-zero, weigh_zero p)

-- the sum is linear in the weights
weigh-sum : (v : ℤ) (w u : Key → ℤ) (p : Poly) → weigh (λ k. w k +ℤ v *ℤ u k) p ≡ weigh w p +ℤ v *ℤ weigh u p
unfolding weigh
weigh-sum v w u nil = simp (I.*ℤ-zero)
weigh-sum v w u (term k c p) =
    simp (weigh-sum v w u p, R.*ℤ-+ℤ, R.*ℤ_left_comm c v)
    (R.+ℤ_interchange (c *ℤ w k) (v *ℤ (c *ℤ u k)) (weigh w p) (v *ℤ weigh u p))

-- 1 where two keys are the same, else 0
unfoldable same : Key → Key → ℤ
same [] [] = pos 1
same [] (y ∷ l) = pos 0
same (x ∷ k) [] = pos 0
same (x ∷ k) (y ∷ l) = cond (eqb x y) (same k l) (pos 0)

-- the coefficient at the key m
abbrev coeff : Key → Poly → ℤ
coeff m p = weigh (same m) p

same_self : (k : Key) → same k k ≡ pos 1
unfolding same
same_self [] = refl
same_self (x ∷ k) = rw (eqb-self x) (same_self k)

same_before : (k l : Key) → Lt k l → same k l ≡ pos 0
unfolding same
same_before [] [] h = absurd h
same_before [] (y ∷ l) h = refl
same_before (x ∷ k) [] h = refl
same_before (x ∷ k) (y ∷ l) (inl h) = rw (eqb_ne x y (N.ne_of_lt h))
same_before (x ∷ k) (y ∷ l) (inr h) = cond_either (eqb x y) (same k l) (pos 0) (λ z. z ≡ pos 0) (λ t. same_before k l h.1) (λ t. refl)

-- a key that does not begin with x is not one that does
same_left : (x : ℕ) (m k : Key) → NotHead x k → same (x ∷ m) k ≡ pos 0
unfolding same
same_left x m [] h = refl
same_left x m (y ∷ k) h = rw (eqb_ne x y h)

same_right : (x : ℕ) (m k : Key) → NotHead x m → same m (x ∷ k) ≡ pos 0
unfolding same
same_right x [] k h = refl
same_right x (y ∷ m) k h = rw (eqb_ne y x (λ e. h (sym e)))

same_both : (x : ℕ) (m k : Key) → same (x ∷ m) (x ∷ k) ≡ same m k
unfolding same
same_both x m k = rw (eqb-self x)

-- a key before all those of p has the coefficient 0
coeff-before : (m : Key) (p : Poly) → Below m p → Sorted p → coeff m p ≡ pos 0
unfolding weigh
coeff-before m nil b s = refl
coeff-before m (term k c nil) b s = simp (same_before m k b, I.*ℤ-zero)
coeff-before m (term k c (term l d p)) b s =
    simp (same_before m k b, I.*ℤ-zero, I.+ℤ_idl) (coeff-before m (term l d p) (Lt-trans m k l b s.1) s.2)

-- so the first key has its own
coeff_first : (k : Key) (c : ℤ) (p : Poly) → Sorted (term k c p) → coeff k (term k c p) ≡ c
unfolding weigh
coeff_first k c p s = simp (same_self k, R.*ℤ-1, coeff-before k p s.1 s.2, I.+ℤ_idr)

-- ════ a number for a variable

-- v to the power n
unfoldable power : ℤ → ℕ → ℤ
power v zero = pos 1
power v (suc n) = v *ℤ power v n

-- v for the leading x of each key, gathered again
unfoldable substitute : ℕ → ℤ → Poly → Poly
substitute x v nil = nil
substitute x v (term k c p) = insert (rest x k) (c *ℤ power v (leading x k)) (substitute x v p)

substitute-sorted : (x : ℕ) (v : ℤ) (p : Poly) → Sorted (substitute x v p)
unfolding substitute
substitute-sorted x v nil = tt
substitute-sorted x v (term k c p) = insert-sorted (rest x k) (c *ℤ power v (leading x k)) (substitute x v p) (substitute-sorted x v p)

substitute-bounded : (degree : ℕ → ℕ) (x high : ℕ) (v : ℤ) (p : Poly)
    → AllK (Bounded degree x high) p → AllK (Bounded degree (suc x) high) (substitute x v p)
unfolding substitute
substitute-bounded degree x high v nil a = tt
substitute-bounded degree x high v (term k c p) a =
    insert_all (Bounded degree (suc x) high) (rest x k) (c *ℤ power v (leading x k)) (substitute x v p)
    (rest-bounded degree x high k a.0) (substitute-bounded degree x high v p a.1)

-- afterwards a key weighs what its rest does, times the power of v
substitute-weigh : (w : Key → ℤ) (x : ℕ) (v : ℤ) (p : Poly)
    → weigh w (substitute x v p) ≡ weigh (λ k. power v (leading x k) *ℤ w (rest x k)) p
unfolding substitute weigh
substitute-weigh w x v nil = refl
substitute-weigh w x v (term k c p) = simp (insert-weigh, R.*ℤ_assoc, substitute-weigh w x v p)

split_value : (σ : ℕ → ℤ) {x : ℕ} {k m : Key} {e : ℕ} → Split x k e m → power (σ x) e *ℤ key_v σ m ≡ key_v σ k
unfolding key_v power
split_value σ {k = k} (done h) = R.one_*ℤ (key_v σ k)
split_value σ (more s) = simp (R.*ℤ_assoc, split_value σ s)

-- with the value of x for x nothing changes
substitute_value : (σ : ℕ → ℤ) (x : ℕ) (p : Poly) → value σ (substitute x (σ x) p) ≡ value σ p
unfolding value
substitute_value σ x p = substitute-weigh (key_v σ) x (σ x) p ∙ (λ i. weigh (λ k. split_value σ (split x k) i) p)

-- ════ the coefficients at m, x m, x x m, … are those of a polynomial in x

-- the n coefficients at m, x m, x x m, …
unfoldable powers : ℕ → Key → ℕ → Poly → List ℤ
powers x m zero p = []
powers x m (suc n) p = coeff m p ∷ powers x (x ∷ m) n p

-- what one key adds to them
unfoldable places : ℕ → Key → ℕ → Key → List ℤ
places x m zero k = []
places x m (suc n) k = same m k ∷ places x (x ∷ m) n k

powers-places : (v : ℤ) (x n : ℕ) (m : Key) (p : Poly) → eval v (powers x m n p) ≡ weigh (λ k. eval v (places x m n k)) p
unfolding powers places eval
powers-places v x zero m p = sym (weigh_zero p)
powers-places v x (suc n) m p =
    ap (λ (z : ℤ). coeff m p +ℤ v *ℤ z) (powers-places v x n (x ∷ m) p) ∙ sym (weigh-sum v (same m) (λ k. eval v (places x (x ∷ m) n k)) p)

-- a key that does not begin with x adds nothing at x m, x x m, …
places-other : (v : ℤ) (x n : ℕ) (m k : Key) → NotHead x k → eval v (places x (x ∷ m) n k) ≡ pos 0
unfolding places eval
places-other v x zero m k h = refl
places-other v x (suc n) m k h = simp (same_left x m k h, places-other v x n (x ∷ m) k h, I.*ℤ-zero)

places-both : (x n : ℕ) (m k : Key) → places x (x ∷ m) n (x ∷ k) ≡ places x m n k
unfolding places
places-both x zero m k = refl
places-both x (suc n) m k = λ i. same_both x m k i ∷ places-both x n (x ∷ m) k i

places-split : (v : ℤ) {x : ℕ} {k r : Key} {e : ℕ} → Split x k e r → (n : ℕ) (m : Key) → e < n → NotHead x m
    → eval v (places x m n k) ≡ power v e *ℤ same m r
unfolding places eval power
places-split v (done h) zero m l nh = absurd (N.not-suc-le-zero l)
places-split v {x} {k} (done h) (suc n) m l nh = simp (places-other v x n m k h, I.*ℤ-zero, I.+ℤ_idr, R.one_*ℤ)
places-split v (more s) zero m l nh = absurd (N.not-suc-le-zero l)
places-split v {x} (more {k = k} s) (suc n) m l nh =
    simp (same_right x m k nh, places-both x n m k, places-split v s n m (omega arith) nh, I.+ℤ_idl, R.*ℤ_assoc)

-- at v they give the coefficient at m once v stands for x
powers-eval : (v : ℤ) (x d : ℕ) (m : Key) (p : Poly) → NotHead x m → AllK (λ k. leading x k ≤ d) p
    → eval v (powers x m (suc d) p) ≡ coeff m (substitute x v p)
powers-eval v x d m p nh a =
    powers-places v x (suc d) m p
    ∙ weigh-agree (λ k. leading x k ≤ d) (λ k. eval v (places x m (suc d) k)) (λ k. power v (leading x k) *ℤ same m (rest x k))
    (λ k h. places-split v (split x k) (suc d) m (omega arith) nh) p a
    ∙ sym (substitute-weigh (same m) x v p)

-- x, e times, and then m
unfoldable repeated : ℕ → ℕ → Key → Key
repeated x zero m = m
repeated x (suc e) m = repeated x e (x ∷ m)

repeated-cons : (x e : ℕ) (m : Key) → x ∷ repeated x e m ≡ repeated x e (x ∷ m)
unfolding repeated
repeated-cons x zero m = refl
repeated-cons x (suc e) m = repeated-cons x e (x ∷ m)

split-repeated : {x : ℕ} {k m : Key} {e : ℕ} → Split x k e m → k ≡ repeated x e m
unfolding repeated
split-repeated (done h) = refl
split-repeated {x} {m = m} (more {e = e} s) = ap (λ (z : Key). x ∷ z) (split-repeated s) ∙ repeated-cons x e m

-- where they are all 0, so is the coefficient at each of these keys
powers_zero : (x n e : ℕ) (m : Key) (p : Poly) → e < n → AllZero (powers x m n p) → coeff (repeated x e m) p ≡ pos 0
unfolding powers repeated
powers_zero x zero e m p l a = absurd (N.not-suc-le-zero l)
powers_zero x (suc n) zero m p l a = a.0
powers_zero x (suc n) (suc e) m p l a = powers_zero x n e (x ∷ m) p (omega arith) a.1

length-powers : (x n : ℕ) (m : Key) (p : Poly) → length (powers x m n p) ≡ n
unfolding powers
length-powers x zero m p = refl
length-powers x (suc n) m p = ap suc (length-powers x n (x ∷ m) p)

-- ════ some number leaves a term

-- f is not 0 at some number below n, or 0 at all of them
find : (n : ℕ) (f : ℕ → ℤ) → ((v : ℕ) × (v < n) × NonZero (f v)) ⊎ ((v : ℕ) → v < n → f v ≡ pos 0)
find zero f = inr (λ v l. absurd (N.not-suc-le-zero l))
find (suc n) f = go (zero_or_not (f n)) (find n f)
  where
    last : f n ≡ pos 0 → ((v : ℕ) → v < n → f v ≡ pos 0) → (v : ℕ) → v < suc n → f v ≡ pos 0
    last e h v l = elim (N.eq-or-lt_of_le (N.le_of_suc-le-suc l)) [ inl q ↦ ap f q ∙ e | inr q ↦ h v q ]

    go : (f n ≡ pos 0) ⊎ NonZero (f n) → ((v : ℕ) × (v < n) × NonZero (f v)) ⊎ ((v : ℕ) → v < n → f v ≡ pos 0)
        → ((v : ℕ) × (v < suc n) × NonZero (f v)) ⊎ ((v : ℕ) → v < suc n → f v ≡ pos 0)
    go (inr a) r = inl (n, N.le_refl (suc n), a)
    go (inl e) (inl a) = inl (a.0, N.le_step a.1, a.2)
    go (inl e) (inr h) = inr (last e h)

coeff-nonempty : (m : Key) (p : Poly) → NonZero (coeff m p) → NonEmpty p
unfolding weigh
coeff-nonempty m nil h = h refl
coeff-nonempty m (term k c p) h = tt

-- where x stands at most d times at the front of the keys, some number from 0 to d for x leaves a term
survives : (d x : ℕ) (p : Poly) → Sorted p → NonEmpty p → AllK (λ k. leading x k ≤ d) p
    → (v : ℕ) × (v ≤ d) × NonEmpty (substitute x (pos v) p)
survives d x nil s ne a = absurd ne
survives d x (term k c p) s ne a = go (find (suc d) (λ v. coeff m (substitute x (pos v) q)))
  where
    m : Key
    m = rest x k

    q : Poly
    q = term k c p

    all_zero : ((v : ℕ) → v < suc d → coeff m (substitute x (pos v) q) ≡ pos 0) → AllZero (powers x m (suc d) q)
    all_zero h =
        grid-points (suc d) (powers x m (suc d) q) (N.le_of_eq (length-powers x (suc d) m q))
        (λ v l. powers-eval (pos v) x d m q (split-head (split x k)) a ∙ h v l)

    first_zero : AllZero (powers x m (suc d) q) → c ≡ pos 0
    first_zero z =
        sym (coeff_first k c p s) ∙ ap (λ (l : Key). coeff l q) (split-repeated (split x k))
        ∙ powers_zero x (suc d) (leading x k) m q (omega (arith, a.0)) z

    go : ((v : ℕ) × (v < suc d) × NonZero (coeff m (substitute x (pos v) q))) ⊎ ((v : ℕ) → v < suc d → coeff m (substitute x (pos v) q) ≡ pos 0)
        → (v : ℕ) × (v ≤ d) × NonEmpty (substitute x (pos v) q)
    go (inl r) = (r.0, N.le_of_suc-le-suc r.1, coeff-nonempty m (substitute x (pos r.0) q) r.2)
    go (inr h) = absurd (s.0 (first_zero (all_zero h)))

-- ════ all variables

-- σ, but with the value v at x
unfoldable update : ℕ → ℕ → (ℕ → ℕ) → ℕ → ℕ
update x v σ y = cond (eqb x y) v (σ y)

update-at : (x v : ℕ) (σ : ℕ → ℕ) → update x v σ x ≡ v
unfolding update
update-at x v σ = rw (eqb-self x)

update_other : (x v : ℕ) (σ : ℕ → ℕ) (y : ℕ) → ¬ (x ≡ y) → update x v σ y ≡ σ y
unfolding update
update_other x v σ y h = rw (eqb_ne x y h)

update-within : (degree : ℕ → ℕ) (x v : ℕ) (σ : ℕ → ℕ) → v ≤ degree x → ((y : ℕ) → σ y ≤ degree y) → (y : ℕ) → update x v σ y ≤ degree y
unfolding update
update-within degree x v σ h g y =
    cond_either (eqb x y) v (σ y) (λ w. w ≤ degree y) (λ t. subst (λ (z : ℕ). v ≤ degree z) (eqb→eq x y t) h) (λ t. g y)

-- an assignment of naturals as one of integers
abbrev pub intσ : (ℕ → ℕ) → ℕ → ℤ
intσ σ y = pos (σ y)

-- a key of later variables does not see x
later : (x v : ℕ) (σ : ℕ → ℕ) (low : ℕ) (k : Key) → x < low → Ascending low k → key_v (intσ (update x v σ)) k ≡ key_v (intσ σ) k
unfolding key_v
later x v σ low [] h a = refl
later x v σ low (y ∷ k) h a = λ i. pos (update_other x v σ y (λ e. omega arith) i) *ℤ later x v σ y k (omega arith) a.1 i

module _ (degree : ℕ → ℕ) (high : ℕ) where
  -- the value with v at x is the one after v is put for x
  update_value : (x v : ℕ) (σ : ℕ → ℕ) (p : Poly) → AllK (Bounded degree x high) p → value (intσ (update x v σ)) p ≡ value (intσ σ) (substitute x (pos v) p)
  unfolding value
  update_value x v σ p a =
      sym (substitute_value (intσ (update x v σ)) x p)
      ∙ ap (λ (u : ℕ). value (intσ (update x v σ)) (substitute x (pos u) p)) (update-at x v σ)
      ∙ weigh-agree (Bounded degree (suc x) high) (key_v (intσ (update x v σ))) (key_v (intσ σ))
      (λ k b. later x v σ (suc x) k (N.le_refl (suc x)) b.ascending) (substitute x (pos v) p) (substitute-bounded degree x high (pos v) p a)

  -- with no variable left there is one term, and the value is its coefficient
  constant : (low : ℕ) (p : Poly) → high ≤ low → Sorted p → NonEmpty p → AllK (Bounded degree low high) p → (σ : ℕ → ℤ) → NonZero (value σ p)
  unfolding value key_v
  constant low nil l s ne a σ = absurd ne
  constant low (term [] c nil) l s ne a σ = simp (I.+ℤ_idr, R.*ℤ-1) s.0
  constant low (term [] c (term [] d p)) l s ne a σ = absurd s.1
  constant low (term [] c (term (y ∷ k) d p)) l s ne a σ = absurd (omega (arith, a.1.0.ascending.0, a.1.0.below.0))
  constant low (term (y ∷ k) c p) l s ne a σ = absurd (omega (arith, a.0.ascending.0, a.0.below.0))

  -- the theorem below for the variables from `low` on, of which n are left
  eliminate : (n low : ℕ) (p : Poly) → high ≤ low + n → Sorted p → NonEmpty p → AllK (Bounded degree low high) p
      → (σ : ℕ → ℕ) × ((x : ℕ) → σ x ≤ degree x) × NonZero (value (intσ σ) p)
  eliminate zero low p l s ne a = (λ x. 0, λ x. zero-le, constant low p (omega arith) s ne a (λ x. pos 0))
  eliminate (suc n) low p l s ne a =
      let few = all_map (Bounded degree low high) (λ k. leading low k ≤ degree low) (leading-bounded degree low high) p a in
      let w = survives (degree low) low p s ne few in
      let v : ℕ = w.0 in
      let r = eliminate n (suc low) (substitute low (pos v) p) (omega arith) (substitute-sorted low (pos v) p) w.2 (substitute-bounded degree low high (pos v) p a) in
      (update low v r.0, update-within degree low v r.0 w.1 r.1, λ e. r.2 (sym (update_value low v r.0 p a) ∙ e))

-- a gathered polynomial with a term, over variables below n, each x at most `degree x` times in a key,
-- is not 0 at some assignment of numbers from 0 to `degree x`
pub nonvanishing : (degree : ℕ → ℕ) (n : ℕ) (p : Poly) → Sorted p → NonEmpty p → AllK (Bounded degree 0 n) p
    → (σ : ℕ → ℕ) × ((x : ℕ) → σ x ≤ degree x) × NonZero (value (intσ σ) p)
nonvanishing degree n p s ne a = eliminate degree n n 0 p (omega arith) s ne a

-- so one that is 0 at all of these has no term
pub zero_polynomial : (degree : ℕ → ℕ) (n : ℕ) (p : Poly) → Sorted p → AllK (Bounded degree 0 n) p
    → ((σ : ℕ → ℕ) → ((x : ℕ) → σ x ≤ degree x) → value (intσ σ) p ≡ pos 0) → p ≡ nil
zero_polynomial degree n nil s a h = refl
zero_polynomial degree n (term k c p) s a h = let w = nonvanishing degree n (term k c p) s tt a in absurd (w.2 (h w.0 w.1))
