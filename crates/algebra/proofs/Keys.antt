-- The keys of polynomials: keys within bounds, their products, a key without its leading variable, and what holds of each key of a polynomial.
-- Assumes nothing.
use Rattle.std.specs.Prelude.{◌≡◌, refl, Bool, true, false, not, cond, [], ◌∷◌, T, leb, eqb, ℤ, pos, negsuc, ◌+ℤ◌}
use Rattle.std.proofs.Common.{subst, arith, leb→le, eqb→eq, T_not}
use Prim.Native.Nat.{ℕ, zero, suc, ◌+◌, ◌≤◌, ◌<◌, Ordering}
use Rattle.std.proofs.Math.Nat as N
use Rattle.std.proofs.Math.Dec.{nleb→lt, eqb_refl}
use Rattle.algebra.specs.Conditions.{cond_either, eqb-self, eqb_ne}
use Rattle.algebra.specs.Polynomials.{Key, Poly, nil, term, cmp_k, put, place, insert, ins_var, mul_key}

-- ════ keys within bounds

-- how often x stands in the key
unfoldable pub count : ℕ → Key → ℕ
count x [] = zero
count x (y ∷ k) = cond (eqb x y) 1 0 + count x k

-- the variables ascend, equal ones allowed, and the first is at least `low`
abbrev pub Ascending : ℕ → Key → Type 0
Ascending low [] = Unit {0}
Ascending low (y ∷ k) = (low ≤ y) × Ascending y k

-- each variable is below `high`
abbrev pub VariablesBelow : ℕ → Key → Type 0
VariablesBelow high [] = Unit {0}
VariablesBelow high (y ∷ k) = (y < high) × VariablesBelow high k

-- the variables ascend, from `low` on, they are below `high`, and each x stands at most `degree x` times in the key
pub record Bounded (degree : ℕ → ℕ) (low high : ℕ) (k : Key) : Type 0 where
  pub ascending : Ascending low k
  pub below : VariablesBelow high k
  pub at_most : (x : ℕ) → count x k ≤ degree x

-- a variable below all others does not stand in the key
count_absent : (x low : ℕ) (k : Key) → x < low → Ascending low k → count x k ≡ 0
unfolding count
count_absent x low [] h a = refl
count_absent x low (y ∷ k) h a = rw (eqb_ne x y (λ e. omega arith), count_absent x y k (omega arith) a.1)

-- ════ the product of two keys

ins_var-ascending : (low x : ℕ) (k : Key) → low ≤ x → Ascending low k → Ascending low (ins_var x k)
unfolding ins_var
ins_var-ascending low x [] h a = (h, tt)
ins_var-ascending low x (y ∷ k) h a =
    cond_either (leb x y) (x ∷ y ∷ k) (y ∷ ins_var x k) (Ascending low)
    (λ t. (h, (leb→le x y t, a.1))) (λ t. (a.0, ins_var-ascending y x k (N.le_of_lt (nleb→lt x y t)) a.1))

mul_key-ascending : (low first : ℕ) (k l : Key) → low ≤ first → Ascending first k → Ascending low l → Ascending low (mul_key k l)
unfolding mul_key
mul_key-ascending low first [] l h a b = b
mul_key-ascending low first (x ∷ k) l h a b =
    ins_var-ascending low x (mul_key k l) (omega arith) (mul_key-ascending low x k l (omega arith) a.1 b)

ins_var-below : (high x : ℕ) (k : Key) → x < high → VariablesBelow high k → VariablesBelow high (ins_var x k)
unfolding ins_var
ins_var-below high x [] h a = (h, tt)
ins_var-below high x (y ∷ k) h a =
    cond_either (leb x y) (x ∷ y ∷ k) (y ∷ ins_var x k) (VariablesBelow high) (λ t. (h, a)) (λ t. (a.0, ins_var-below high x k h a.1))

mul_key-below : (high : ℕ) (k l : Key) → VariablesBelow high k → VariablesBelow high l → VariablesBelow high (mul_key k l)
unfolding mul_key
mul_key-below high [] l a b = b
mul_key-below high (x ∷ k) l a b = ins_var-below high x (mul_key k l) a.0 (mul_key-below high k l a.1 b)

count_ins_var : (z x : ℕ) (k : Key) → count z (ins_var x k) ≡ cond (eqb z x) 1 0 + count z k
unfolding ins_var count
count_ins_var z x [] = refl
count_ins_var z x (y ∷ k) =
    cond_either (leb x y) (x ∷ y ∷ k) (y ∷ ins_var x k) (λ l. count z l ≡ cond (eqb z x) 1 0 + (cond (eqb z y) 1 0 + count z k))
    (λ t. refl) (λ t. omega (arith, count_ins_var z x k))

-- counts add up
pub count_mul_key : (z : ℕ) (k l : Key) → count z (mul_key k l) ≡ count z k + count z l
unfolding mul_key count
count_mul_key z [] l = omega arith
count_mul_key z (x ∷ k) l = omega (arith, count_ins_var z x (mul_key k l), count_mul_key z k l)

-- ════ a key without its leading x

-- how often x stands at the front of the key
unfoldable pub leading : ℕ → Key → ℕ
leading x [] = zero
leading x (y ∷ k) = let r = suc (leading x k) in cond (eqb x y) r zero

-- the key without these
unfoldable pub rest : ℕ → Key → Key
rest x [] = []
rest x (y ∷ k) = let r = rest x k in cond (eqb x y) r (y ∷ k)

-- the key does not begin with x
abbrev pub NotHead : ℕ → Key → Type 0
NotHead x [] = Unit {0}
NotHead x (y ∷ k) = ¬ (x ≡ y)

-- k is x, e times, and then m, which does not begin with x
pub data Split (x : ℕ) : Key → ℕ → Key → Type 0 where
  done : {k : Key} → NotHead x k → Split x k zero k
  more : {k m : Key} {e : ℕ} → Split x k e m → Split x (x ∷ k) (suc e) m

split-cons : (x y : ℕ) (k m : Key) (e : ℕ) → Split x k e m → (b : Bool) → (T b → x ≡ y) → (T (not b) → ¬ (x ≡ y))
    → Split x (y ∷ k) (cond b (suc e) zero) (cond b m (y ∷ k))
split-cons x y k m e s true f g = subst (λ (z : ℕ). Split x (z ∷ k) (suc e) m) (f tt) (more s)
split-cons x y k m e s false f g = done (g tt)

-- every key is its leading x and the rest
pub split : (x : ℕ) (k : Key) → Split x k (leading x k) (rest x k)
unfolding leading rest
split x [] = done tt
split x (y ∷ k) =
    split-cons x y k (rest x k) (leading x k) (split x k) (eqb x y) (eqb→eq x y)
    (λ t e. T_not (eqb x y) t (subst (λ (z : ℕ). T (eqb x z)) e (eqb_refl x)))

-- the rest does not begin with x
pub split-head : {x : ℕ} {k m : Key} {e : ℕ} → Split x k e m → NotHead x m
split-head (done h) = h
split-head (more s) = split-head s

split-ascending : {x : ℕ} {k m : Key} {e : ℕ} → Split x k e m → Ascending x k → Ascending (suc x) m
split-ascending {x} {k = k} (done h) a = from x k h a
  where
    from : (x : ℕ) (k : Key) → NotHead x k → Ascending x k → Ascending (suc x) k
    from x [] h a = tt
    from x (y ∷ k) h a = (omega arith, a.1)
split-ascending (more s) a = split-ascending s a.1

split_below : (high : ℕ) {x : ℕ} {k m : Key} {e : ℕ} → Split x k e m → VariablesBelow high k → VariablesBelow high m
split_below high (done h) a = a
split_below high (more s) a = split_below high s a.1

-- x stands e times in front, and elsewhere as often as in what is left
split_count : {x : ℕ} {k m : Key} {e : ℕ} → Split x k e m → count x k ≡ e + count x m
unfolding count
split_count {x} {k = k} (done h) = omega arith
split_count {x} (more s) = rw (eqb-self x) (omega (arith, split_count s))

-- no variable stands in the rest more often than in the key
rest_count : (z : ℕ) {x : ℕ} {k m : Key} {e : ℕ} → Split x k e m → count z m ≤ count z k
unfolding count
rest_count z {k = k} (done h) = N.le_refl (count z k)
rest_count z (more s) = omega (arith, rest_count z s)

-- in an ascending key whose variables are x or later, x stands only at the front
pub leading_count : (x : ℕ) (k : Key) → Ascending x k → leading x k ≡ count x k
leading_count x k a =
    omega (arith, split_count (split x k), count_absent x (suc x) (rest x k) (N.le_refl (suc x)) (split-ascending (split x k) a))

-- so its degree bounds how often it stands there
pub leading-bounded : (degree : ℕ → ℕ) (x high : ℕ) (k : Key) → Bounded degree x high k → leading x k ≤ degree x
leading-bounded degree x high k b = omega (arith, leading_count x k b.ascending, b.at_most x)

-- and the rest has the bounds of the key, from the next variable on
pub rest-bounded : (degree : ℕ → ℕ) (x high : ℕ) (k : Key) → Bounded degree x high k → Bounded degree (suc x) high (rest x k)
rest-bounded degree x high k b =
    record {
      ascending = split-ascending (split x k) b.ascending;
      below = split_below high (split x k) b.below;
      at_most = λ z. omega (arith, rest_count z (split x k), b.at_most z);
    }

-- ════ the keys of a polynomial

-- P holds of each key of the polynomial
abbrev pub AllK : (Key → Type 0) → Poly → Type 0
AllK P nil = Unit {0}
AllK P (term k c p) = P k × AllK P p

-- what follows from P holds of each key where P does
pub all_map : (P Q : Key → Type 0) → ((k : Key) → P k → Q k) → (p : Poly) → AllK P p → AllK Q p
all_map P Q h nil a = tt
all_map P Q h (term k c p) a = (h k a.0, all_map P Q h p a.1)

put_all : (P : Key → Type 0) (k : Key) (c : ℤ) (p : Poly) → P k → AllK P p → AllK P (put k c p)
unfolding put
put_all P k (pos zero) p h a = a
put_all P k (pos (suc n)) p h a = (h, a)
put_all P k (negsuc n) p h a = (h, a)

place_all : (P : Key → Type 0) (o : Ordering) (k l : Key) (c d : ℤ) (p r : Poly) → P k → P l → AllK P p → AllK P r → AllK P (place o k c l d p r)
unfolding place
place_all P Ordering.lt k l c d p r hk hl a ar = put_all P k c (term l d p) hk (hl, a)
place_all P Ordering.eq k l c d p r hk hl a ar = put_all P l (c +ℤ d) p hl a
place_all P Ordering.gt k l c d p r hk hl a ar = ar

-- what holds of the new key and of all others holds of all
pub insert_all : (P : Key → Type 0) (k : Key) (c : ℤ) (p : Poly) → P k → AllK P p → AllK P (insert k c p)
unfolding insert
insert_all P k c nil h a = put_all P k c nil h tt
insert_all P k c (term l d p) h a =
    place_all P (cmp_k k l) k l c d p (term l d (insert k c p)) h a.0 a.1 (a.0, insert_all P k c p h a.1)
