-- Numbers for the variables, from the lowest on: one turn keeps what the next one asks; at the end the value is a number that is not 0, and was 0 before.
-- Assumes nothing.
use mathlib.Core.Path.{◌≡◌, refl, sym, ◌∙◌, ap, subst}
use mathlib.Core.Bool.{Bool, true, false, ◌&&◌, ◌||◌}
use mathlib.Core.Logic.{◌⊎◌, inl, inr}
use mathlib.Core.List.{List, [], ◌∷◌, map}
use Prim.Native.Nat.{ℕ, zero, suc, ◌+◌, ◌-◌, ◌*◌, ◌/◌, ◌%◌, ◌^◌, ◌≤◌, ◌<◌}
use native.Mathlib.Nat as N
use native.Mathlib.Omega.{arith}
use lib.Dec.{ltb, leb, eqb}
use borrow.Author.Tests.{eq-eqb, ne_eqb, eqb-true, eqb-false, ltb-true, leb-true, leb-false}
use lib.IntN.{ℤ, pos, ◌+ℤ◌, ◌*ℤ◌}
use lib.IntN as I
use lib.Pow.{pow-add}
use lib.ListN.{length, get_or, take, drop, set, length-set}
use lib.Seq.{get_or-set_same, get_or-set_other, drop-set-lt}
use Rattle.specification.specs.Decision.{buffer_bytes}
use Rattle.algebra.specs.Integers.{NonZero}
use Rattle.algebra.specs.Integers as R
use Rattle.algebra.specs.Conditions.{eq-or-ne, lt_or_le}
use Rattle.algebra.specs.Numbers.{below_more}
use Rattle.specification.specs.Results.{when◌then◌else◌}
use Rattle.specification.specs.Letters.{vector, kind_of}
use Rattle.theory.specs.Elements.{All, all_implies, both_all}
use Rattle.theory.specs.Values.Firsts.{Alike}
use Rattle.polynomials.specs.Keys.{digit_value, key_value, rest, exponent, lowest, Ordered, tally}
use Rattle.polynomials.specs.Summands.{Summand, weigh, total, put_for, substituted, is_some, Rising}
use Rattle.polynomials.specs.Passes.{Substitutable, Substituted, lesser_of, least_from}
use Rattle.elimination.specs.Elimination.{most_of, limit_of, vector_digit, scalar_digit, strange_digit, Has, weight, Polynomial, FirstNumber}
use Rattle.elimination.specs.Elimination.{Eliminable, Unchosen, Gives, ZeroBefore, Eliminated}
use Rattle.polynomials.proofs.Keys.{value_zero, rest-tally, rest_ordered}
use Rattle.polynomials.proofs.Summands.{substituted_value, like-size, reduced-size, mass-size, AllOrdered, substituted-rising, substituted-ordered, substituted-keys}
use Rattle.elimination.proofs.Survival.{none_weighs, survives}

-- ════ the variables of a table

most-limit : (table : List ℕ) (x : ℕ) (b c : Bool) → eqb (kind_of table (x / 3)) vector ≡ b → eqb (x % 3) 0 ≡ c → (b || c) ≡ true → most_of table x ≡ limit_of table x
unfolding most_of limit_of
most-limit table x true c p q h = rw p
most-limit table x false true p q h = rw (p, q)
most-limit table x false false p q h = absurd (let z : ◌≡◌ {A = ℕ} 0 1 = cc in omega arith)

module _ (table : List ℕ) where
  -- a variable is of a vector or of a scalar
  data Kind (x : ℕ) : Type 0 where
    is_vector : most_of table x ≡ 6 → vector_digit table (suc x) ≡ 1 → scalar_digit table (suc x) ≡ 0 → limit_of table x ≡ 6 → Kind x
    is_scalar : most_of table x ≡ 2 → vector_digit table (suc x) ≡ 0 → scalar_digit table (suc x) ≡ 1 → (x % 3 ≡ 0 → limit_of table x ≡ 2) → Kind x

  kind : (x : ℕ) → Kind x
  unfolding most_of vector_digit scalar_digit limit_of
  kind x = go (eqb (kind_of table (x / 3)) vector) refl
    where
      go : (b : Bool) → eqb (kind_of table (x / 3)) vector ≡ b → Kind x
      go true e = is_vector (rw e) (rw e) (rw e) (rw e)
      go false e = is_scalar (rw e) (rw e) (rw e) (λ z. rw (e, eq-eqb (x % 3) 0 z))

  -- the largest number for a component of a vector
  pub most-vector : (x : ℕ) → kind_of table (x / 3) ≡ 1 → 6 ≡ most_of table x
  unfolding most_of
  most-vector x e = rw (eq-eqb (kind_of table (x / 3)) 1 e)

  -- and for a scalar letter
  pub most-scalar : (x : ℕ) → ¬ (kind_of table (x / 3) ≡ 1) → 2 ≡ most_of table x
  unfolding most_of
  most-scalar x e = rw (ne_eqb (kind_of table (x / 3)) 1 e)

  -- none is above 6
  most-few : (x : ℕ) → most_of table x ≤ 6
  most-few x = go (kind x)
    where
      go : Kind x → most_of table x ≤ 6
      go (is_vector a b c d) = N.le_of_eq a
      go (is_scalar a b c d) = omega (arith, a)

  -- a digit that is no stranger
  known_digit : (x : ℕ) → strange_digit table (suc x) ≡ 0 → (x < 3 * length table) × (most_of table x ≡ limit_of table x)
  unfolding strange_digit
  known_digit x e = go (ltb x (3 * length table)) (eqb (kind_of table (x / 3)) vector) (eqb (x % 3) 0) refl refl refl e
    where
      both : (b c : Bool) → eqb (kind_of table (x / 3)) vector ≡ b → eqb (x % 3) 0 ≡ c → (b || c) ≡ true → most_of table x ≡ limit_of table x
      both b c p q h = most-limit table x b c p q h

      go : (a b c : Bool) → ltb x (3 * length table) ≡ a → eqb (kind_of table (x / 3)) vector ≡ b → eqb (x % 3) 0 ≡ c → ◌≡◌ {A = ℕ} (when a && (b || c) then 0 else 1) 0
          → (x < 3 * length table) × (most_of table x ≡ limit_of table x)
      go false b c p q r h = absurd (omega arith)
      go true true c p q r h = (ltb-true x (3 * length table) p, both true c q r refl)
      go true false true p q r h = (ltb-true x (3 * length table) p, both false true q r refl)
      go true false false p q r h = absurd (omega arith)

  -- ════ what a key can come to

  zero_vector : vector_digit table 0 ≡ 0
  unfolding vector_digit
  zero_vector = refl

  zero_scalar : scalar_digit table 0 ≡ 0
  unfolding scalar_digit
  zero_scalar = refl

  zero_strange : strange_digit table 0 ≡ 0
  unfolding strange_digit
  zero_strange = refl

  -- no key weighs 0
  pub weight_some : (k : ℕ) → 1 ≤ weight table k
  unfolding weight
  weight_some k =
      omega (arith, N.mul-le-mul (N.one-le-pow (tally (vector_digit table) 8 k) 6 (omega arith)) (N.one-le-pow (tally (scalar_digit table) 8 k) 2 (omega arith)))

  -- a number up to the largest does not add to it
  weight-step : (x v k : ℕ) → v ≤ most_of table x → v ^ exponent 8 (suc x) k * weight table (rest 8 (suc x) k) ≤ weight table k
  unfolding weight
  weight-step x v k h =
      go (kind x) (exponent 8 (suc x) k) (tally (vector_digit table) 8 (rest 8 (suc x) k)) (tally (scalar_digit table) 8 (rest 8 (suc x) k))
      (rest-tally (vector_digit table) 8 (suc x) k zero_vector) (rest-tally (scalar_digit table) 8 (suc x) k zero_scalar)
    where
      go : Kind x → (e a b : ℕ) → tally (vector_digit table) 8 k ≡ e * vector_digit table (suc x) + a → tally (scalar_digit table) 8 k ≡ e * scalar_digit table (suc x) + b
          → v ^ e * (6 ^ a * 2 ^ b) ≤ 6 ^ tally (vector_digit table) 8 k * 2 ^ tally (scalar_digit table) 8 k
      go (is_vector m u w d) e a b p q =
          let p' : tally (vector_digit table) 8 k ≡ e + a = p ∙ ap (λ (z : ℕ). e * z + a) u ∙ omega arith in
          let q' : tally (scalar_digit table) 8 k ≡ b = q ∙ ap (λ (z : ℕ). e * z + b) w ∙ omega arith in
          rw (p', q', pow-add 6 e a, N.mul_assoc (6 ^ e) (6 ^ a) (2 ^ b)) (N.mul-le-mul_right (6 ^ a * 2 ^ b) (N.pow-le-pow_left (N.le_trans h (N.le_of_eq m)) e))
      go (is_scalar m u w d) e a b p q =
          let p' : tally (vector_digit table) 8 k ≡ a = p ∙ ap (λ (z : ℕ). e * z + a) u ∙ omega arith in
          let q' : tally (scalar_digit table) 8 k ≡ e + b = q ∙ ap (λ (z : ℕ). e * z + b) w ∙ omega arith in
          rw (p', q', pow-add 2 e b, N.mul_left_comm (6 ^ a) (2 ^ e) (2 ^ b)) (N.mul-le-mul_right (6 ^ a * 2 ^ b) (N.pow-le-pow_left (N.le_trans h (N.le_of_eq m)) e))

  -- no variable stands more often than its largest number
  exponent-limit : (x k : ℕ) → Has table 6 2 k → exponent 8 (suc x) k ≤ most_of table x
  exponent-limit x k w = go (kind x)
    where
      go : Kind x → exponent 8 (suc x) k ≤ most_of table x
      go (is_vector a b c d) = omega (arith, a, w.vectors, rest-tally (vector_digit table) 8 (suc x) k zero_vector, ap (λ (z : ℕ). exponent 8 (suc x) k * z) b)
      go (is_scalar a b c d) = omega (arith, a, w.scalars, rest-tally (scalar_digit table) 8 (suc x) k zero_scalar, ap (λ (z : ℕ). exponent 8 (suc x) k * z) c)

  ordered-less : (low n k : ℕ) → 1 ≤ low → Ordered low n k → Ordered 1 n k
  ordered-less low zero k h o = o
  ordered-less low (suc n) k h (inl r) = inl (r.0, ordered-less low n (k / 256) h r.1)
  ordered-less low (suc n) k h (inr f) = inr (omega (arith, f.0), f.1)

  has_rest : (v s d k : ℕ) → 1 ≤ d → Ordered d 8 k × Has table v s k → Has table v s (rest 8 d k)
  has_rest v s d k h w =
      record {
        ordered = ordered-less (suc d) 8 (rest 8 d k) (omega arith) (rest_ordered d h 8 k w.0);
        vectors = omega (arith, rest-tally (vector_digit table) 8 d k zero_vector, w.1.vectors);
        scalars = omega (arith, rest-tally (scalar_digit table) 8 d k zero_scalar, w.1.scalars);
        known = omega (arith, rest-tally (strange_digit table) 8 d k zero_strange, w.1.known);
      }

-- ════ the lowest digit

lowest_none : (n k : ℕ) → k % 256 ≡ 0 → lowest (suc n) k ≡ lowest n (k / 256)
unfolding lowest
lowest_none n k e = rw (eq-eqb (k % 256) 0 e)

lowest_some : (n k : ℕ) → ¬ (k % 256 ≡ 0) → lowest (suc n) k ≡ k % 256
unfolding lowest
lowest_some n k h = rw (ne_eqb (k % 256) 0 h)

-- a key whose lowest digit is at least r is in order from r on
lowest-raise : (low n r k : ℕ) → 1 ≤ low → Ordered low n k → (lowest n k ≡ 0) ⊎ (r ≤ lowest n k) → Ordered r n k
unfolding lowest
lowest-raise low zero r k o w h = w
lowest-raise low (suc n) r k o (inl w) h =
    inl (w.0, lowest-raise low n r (k / 256) o w.1 (subst (λ (y : ℕ). (y ≡ 0) ⊎ (r ≤ y)) (lowest_none n k w.0) h))
lowest-raise low (suc n) r k o (inr f) h = inr (go h, f.1)
  where
    is : lowest (suc n) k ≡ k % 256
    is = lowest_some n k (λ e. omega (arith, f.0))

    go : (lowest (suc n) k ≡ 0) ⊎ (r ≤ lowest (suc n) k) → r ≤ k % 256
    go (inl e) = absurd (omega (arith, e, is, f.0))
    go (inr l) = omega (arith, l, is)

-- a key in order from `low` on is 0, or its lowest digit is at least `low`
lowest-least : (low n k : ℕ) → 1 ≤ low → Ordered low n k → ((lowest n k ≡ 0) × (k ≡ 0)) ⊎ (low ≤ lowest n k)
unfolding lowest
lowest-least low zero k o w = inl (refl, w)
lowest-least low (suc n) k o (inr f) = inr (omega (arith, f.0, lowest_some n k (λ e. omega (arith, f.0))))
lowest-least low (suc n) k o (inl w) = go (lowest-least low n (k / 256) o w.1)
  where
    go : ((lowest n (k / 256) ≡ 0) × (k / 256 ≡ 0)) ⊎ (low ≤ lowest n (k / 256)) → ((lowest (suc n) k ≡ 0) × (k ≡ 0)) ⊎ (low ≤ lowest (suc n) k)
    go (inl u) = inl (lowest_none n k w.0 ∙ u.0, omega (arith, u.1, w.0))
    go (inr u) = inr (omega (arith, u, lowest_none n k w.0))

-- the lowest digit is among those that are summed
lowest-tally : (f : ℕ → ℕ) (n k : ℕ) → f 0 ≡ 0 → f (lowest n k) ≤ tally f n k
unfolding lowest tally
lowest-tally f zero k z = N.le_of_eq z
lowest-tally f (suc n) k z = go (eqb (k % 256) 0) refl (lowest-tally f n (k / 256) z)
  where
    go : (b : Bool) → eqb (k % 256) 0 ≡ b → f (lowest n (k / 256)) ≤ tally f n (k / 256) → f (when b then lowest n (k / 256) else k % 256) ≤ f (k % 256) + tally f n (k / 256)
    go true e ih = omega (arith, ih)
    go false e ih = omega arith

-- ════ the least digit of keys

lesser_zero : (a b : ℕ) → lesser_of a b ≡ 0 → (a ≡ 0) × (b ≡ 0)
unfolding lesser_of
lesser_zero a b e = go (eqb a 0) (eqb b 0) (leb a b) refl refl e
  where
    go : (x y z : Bool) → eqb a 0 ≡ x → eqb b 0 ≡ y → (when x then b else when y then a else when z then a else b) ≡ 0 → (a ≡ 0) × (b ≡ 0)
    go true y z p q e = (eqb-true a 0 p, e)
    go false true z p q e = absurd (eqb-false a 0 p e)
    go false false true p q e = absurd (eqb-false a 0 p e)
    go false false false p q e = absurd (eqb-false b 0 q e)

lesser_one : (P : ℕ → Type 0) (a b : ℕ) → P a → P b → P (lesser_of a b)
unfolding lesser_of
lesser_one P a b u v = go (eqb a 0) (eqb b 0) (leb a b)
  where
    go : (x y z : Bool) → P (when x then b else when y then a else when z then a else b)
    go true y z = v
    go false true z = u
    go false false true = u
    go false false false = v

lesser-most : (a b : ℕ) → ((a ≡ 0) ⊎ (lesser_of a b ≤ a)) × ((b ≡ 0) ⊎ (lesser_of a b ≤ b))
unfolding lesser_of
lesser-most a b = go (eqb a 0) (eqb b 0) (leb a b) refl refl refl
  where
    go : (x y z : Bool) → eqb a 0 ≡ x → eqb b 0 ≡ y → leb a b ≡ z
        → ((a ≡ 0) ⊎ ((when x then b else when y then a else when z then a else b) ≤ a)) × ((b ≡ 0) ⊎ ((when x then b else when y then a else when z then a else b) ≤ b))
    go true y z p q r = (inl (eqb-true a 0 p), inr (N.le_refl b))
    go false true z p q r = (inr (N.le_refl a), inl (eqb-true b 0 q))
    go false false true p q r = (inr (N.le_refl a), inr (leb-true a b r))
    go false false false p q r = (inr (N.le_of_lt (leb-false a b r)), inr (N.le_refl b))

-- where the least digit is 0, no key has another
least_zero : (d : ℕ) (ms : List Summand) → least_from d ms ≡ 0 → (d ≡ 0) × All (λ (m : Summand). lowest 8 m.key ≡ 0) ms
unfolding least_from
least_zero d [] e = (e, tt)
least_zero d (m ∷ ms) e =
    let w = least_zero (lesser_of d (lowest 8 m.key)) ms e in
    let u = lesser_zero d (lowest 8 m.key) w.0 in
    (u.0, (u.1, w.1))

-- no key has a lowest digit below the least
least_all : (d : ℕ) (ms : List Summand) → ((d ≡ 0) ⊎ (least_from d ms ≤ d)) × All (λ (m : Summand). (lowest 8 m.key ≡ 0) ⊎ (least_from d ms ≤ lowest 8 m.key)) ms
unfolding least_from
least_all d [] = (inr (N.le_refl d), tt)
least_all d (m ∷ ms) =
    let l = lowest 8 m.key in
    let w = least_all (lesser_of d l) ms in
    let u = lesser-most d l in
    (under d w.0 (λ e. (lesser_zero d l e).0) u.0, (under l w.0 (λ e. (lesser_zero d l e).1) u.1, w.1))
  where
    under : (a : ℕ) → (lesser_of d (lowest 8 m.key) ≡ 0) ⊎ (least_from (lesser_of d (lowest 8 m.key)) ms ≤ lesser_of d (lowest 8 m.key))
        → (lesser_of d (lowest 8 m.key) ≡ 0 → a ≡ 0) → (a ≡ 0) ⊎ (lesser_of d (lowest 8 m.key) ≤ a)
        → (a ≡ 0) ⊎ (least_from (lesser_of d (lowest 8 m.key)) ms ≤ a)
    under a (inl e) z c = inl (z e)
    under a (inr h) z (inl e) = inl e
    under a (inr h) z (inr k) = inr (N.le_trans h k)

-- what holds of d and of every lowest digit holds of the least
least-one : (P : ℕ → Type 0) (d : ℕ) (ms : List Summand) → P d → All (λ (m : Summand). P (lowest 8 m.key)) ms → P (least_from d ms)
unfolding least_from
least-one P d [] h a = h
least-one P d (m ∷ ms) h a = least-one P (lesser_of d (lowest 8 m.key)) ms (lesser_one P d (lowest 8 m.key) h a.0) a.1

-- ════ the first number

-- every number up to the largest can be tried
pub first_asks : (ms : List Summand) (d most v : ℕ) → v < most → ((u : ℕ) → u ≤ most → Substitutable d u ms) → Substitutable d v ms
first_asks ms d most v l h = h v (N.le_of_lt l)

-- a number that leaves a summand ends the search
pub first_found : (ms : List Summand) (d most v : ℕ) → v ≤ most → ((u : ℕ) → u < v → is_some (substituted d u ms) ≡ false) → true ≡ is_some (substituted d v ms) → FirstNumber ms d most v
first_found ms d most v l h e = record { few = l; before = h; found = inl (sym e) }

-- the largest number ends it too
pub first_last : (ms : List Summand) (d most v : ℕ) → most ≤ v → ((u : ℕ) → u < v → is_some (substituted d u ms) ≡ false) → FirstNumber ms d most most
first_last ms d most v k h = record { few = N.le_refl most; before = λ u l. h u (omega arith); found = inr (omega arith) }

-- one more number leaves none
pub first_on : (ms : List Summand) (d v : ℕ) → ((u : ℕ) → u < v → is_some (substituted d u ms) ≡ false) → is_some (substituted d v ms) ≡ false
    → (u : ℕ) → u < v + 1 → is_some (substituted d u ms) ≡ false
first_on ms d v h e = below_more (λ (u : ℕ). is_some (substituted d u ms) ≡ false) v h e

-- ════ numbers written one after the other

-- one more number of s is written into b; of the empty list each is 0
pub written_more : (b s : List ℕ) (i : ℕ) → i < length b → Alike i b s → Alike (i + 1) (set b i (get_or s i 0)) s
written_more b s i l h =
    below_more (λ (x : ℕ). get_or (set b i (get_or s i 0)) x 0 ≡ get_or s x 0) i (λ x k. get_or-set_other b i x (get_or s i 0) 0 (λ e. omega arith) ∙ h x k)
    (get_or-set_same b i (get_or s i 0) 0 l)

-- with the first 3 bytes a letter 0, numbers can be chosen
pub cleared-asks : (table : List ℕ) (n : ℕ) (ms : List Summand) (b₀ b : List ℕ) → Eliminable table n ms b₀ → length b ≡ length b₀
    → ((x : ℕ) → x < 3 * length table → get_or b x 0 ≡ 0) → Eliminable table n ms b × Unchosen table b
unfolding Unchosen
cleared-asks table n ms b₀ b w e z = (record { letters = w.letters; there = w.there; room = omega (arith, w.room); polynomial = w.polynomial }, z)

-- and they are chosen for the buffer as it was
pub cleared_first : (table : List ℕ) (ms : List Summand) (b₀ b b' : List ℕ) → length b ≡ length b₀ → drop (3 * length table) b ≡ drop (3 * length table) b₀
    → Eliminated table ms b b' → Eliminated table ms b₀ b'
cleared_first table ms b₀ b b' e d w = record { same_length = w.same_length ∙ e; behind = w.behind ∙ d; first = w.first }

-- ════ one number after the other

-- how many digits are left at most
unfoldable pub fall_of : (d : ℕ) → ℕ
fall_of d = when eqb d 0 then 0 else 74 - d

falls : (d d' : ℕ) → ¬ (d ≡ 0) → d ≤ 72 → (d' ≡ 0) ⊎ (suc d ≤ d') → fall_of d' < fall_of d
unfolding fall_of
falls d d' h l (inl e) = rw (ne_eqb d 0 h, eq-eqb d' 0 e) (omega arith)
falls d d' h l (inr k) = rw (ne_eqb d 0 h, ne_eqb d' 0 (λ e. omega arith)) (omega arith)

-- the value of a digit is that of its variable
at-digit : (σ : ℕ → ℤ) (d x v : ℕ) → d ≡ suc x → σ x ≡ pos v → digit_value σ d ≡ pos v
unfolding digit_value
at-digit σ d x v e h = ap (digit_value σ) e ∙ h

-- ms is 0 wherever the numbers of s are those of b at all places before x, and s has a lesser one at x
abbrev ZeroBelow : (table : List ℕ) (ms : List Summand) (b : List ℕ) (x : ℕ) → Type 0
ZeroBelow table ms b x =
    (s : List ℕ) (σ : ℕ → ℤ) → Gives table s σ → ((y : ℕ) → y < x → get_or s y 0 ≡ get_or b y 0) → get_or s x 0 < get_or b x 0 → total σ ms ≡ pos 0

-- what is known in the loop: ms is the polynomial at first, rs what is left of it, b the buffer so far, d the least digit;
-- the variables below `low` have their numbers, the others 0
pub record Choosing (table : List ℕ) (ms rs : List Summand) (d : ℕ) (b₀ b : List ℕ) : Type 0 where
  pub least : d ≡ least_from 0 rs
  pub low : ℕ
  pub low_some : 1 ≤ low
  pub low_most : low ≤ 3 * length table + 1
  pub ordered : AllOrdered low rs
  pub polynomial : Polynomial table rs
  pub value : (σ : ℕ → ℤ) → ((x : ℕ) → suc x < low → σ x ≡ pos (get_or b x 0)) → total σ ms ≡ total σ rs
  pub within : (x : ℕ) → x < 3 * length table → get_or b x 0 ≤ limit_of table x
  pub zeros : (x : ℕ) → x < 3 * length table → low ≤ suc x → get_or b x 0 ≡ 0
  pub first : (x : ℕ) → suc x < low → ZeroBelow table ms b x
  pub behind : drop (3 * length table) b ≡ drop (3 * length table) b₀
  pub same : length b ≡ length b₀

-- nothing is chosen yet
pub choose-starts : (table : List ℕ) (n : ℕ) (ms : List Summand) (b : List ℕ) (d : ℕ) → Eliminable table n ms b → Unchosen table b → d ≡ least_from 0 (take n ms)
    → Choosing table (take n ms) (take n ms) d b b
unfolding Unchosen
choose-starts table n ms b d w z e =
    record {
      least = e;
      low = 1;
      low_some = N.le_refl 1;
      low_most = omega arith;
      ordered = all_implies (λ (m : Summand). Has table 6 2 m.key) (λ (m : Summand). Ordered 1 8 m.key) (λ m h. h.ordered) (take n ms) w.polynomial.has;
      polynomial = w.polynomial;
      value = λ σ h. refl;
      within = λ x l. omega (arith, z x l);
      zeros = λ x l h. z x l;
      first = λ x h. absurd (N.not-suc-le-zero (N.le_of_suc-le-suc h));
      behind = refl;
      same = refl;
    }

module _ (table : List ℕ) (ms rs : List Summand) (d : ℕ) (b₀ b : List ℕ) (w : Choosing table ms rs d b₀ b) where
  -- ends: only the key 0 is left
  only_zero : (rs : List Summand) → All (λ (m : Summand). m.key ≡ 0) rs → is_some rs ≡ true → Rising 0 rs → (σ : ℕ → ℤ) → NonZero (total σ rs)
  unfolding is_some weigh
  only_zero [] a s r σ = absurd (let z : ◌≡◌ {A = ℕ} 0 1 = cc in omega arith)
  only_zero (m ∷ n ∷ rs) a s r σ = absurd (omega (arith, r.2.0, a.1.0))
  only_zero (m ∷ []) a s r σ =
      λ e. r.1 (sym (I.+ℤ_idr (m.coef *ℤ key_value σ 8 m.key) ∙ ap (λ (k : ℕ). m.coef *ℤ key_value σ 8 k) a.0 ∙ ap (λ (z : ℤ). m.coef *ℤ z) (value_zero σ 8) ∙ R.*ℤ-1 m.coef) ∙ e)

  zero_key : (rs : List Summand) → AllOrdered w.low rs → All (λ (m : Summand). lowest 8 m.key ≡ 0) rs → All (λ (m : Summand). m.key ≡ 0) rs
  zero_key [] o a = tt
  zero_key (m ∷ rs) o a = (go (lowest-least w.low 8 m.key w.low_some o.0), zero_key rs o.1 a.1)
    where
      go : ((lowest 8 m.key ≡ 0) × (m.key ≡ 0)) ⊎ (w.low ≤ lowest 8 m.key) → m.key ≡ 0
      go (inl u) = u.1
      go (inr u) = absurd (omega (arith, u, a.0, w.low_some))

  -- whichever the place, below the numbers chosen it is 0: a variable without a number has 0, and nothing is less
  below-zero : (x : ℕ) → x < 3 * length table → ZeroBelow table ms b x
  below-zero x l s σ g a k = go (lt_or_le (suc x) w.low)
    where
      go : (suc x < w.low) ⊎ (w.low ≤ suc x) → total σ ms ≡ pos 0
      go (inl h) = w.first x h s σ g a k
      go (inr h) = absurd (omega (arith, w.zeros x l h))

  -- no variable is left: what was chosen keeps the polynomial from being 0, and nothing before it does
  pub choose-ends : d ≡ 0 → Eliminated table ms b₀ b
  unfolding Gives ZeroBefore
  choose-ends z =
      record {
        same_length = w.same;
        behind = w.behind;
        first = record {
          within = w.within;
          nonzero = λ σ h e.
              only_zero rs (zero_key rs w.ordered (least_zero 0 rs (sym w.least ∙ z)).1) w.polynomial.some w.polynomial.rising σ
              (sym (w.value σ (λ x l. h x (omega (arith, l, w.low_most)))) ∙ e);
          earliest = λ s σ g h. below-zero h.place h.inside s σ g h.alike h.less;
        };
      }

  -- a variable is left
  module _ (h : ¬ (d ≡ 0)) where
    -- d is the digit of the variable d − 1
    pub is_digit : d ≡ suc (d - 1)
    is_digit = omega arith

    strange : strange_digit table d ≡ 0
    strange =
        subst (λ (y : ℕ). strange_digit table y ≡ 0) (sym w.least)
        (least-one (λ (y : ℕ). strange_digit table y ≡ 0) 0 rs (zero_strange table)
        (all_implies (λ (m : Summand). Has table 6 2 m.key) (λ (m : Summand). strange_digit table (lowest 8 m.key) ≡ 0)
        (λ m u. omega (arith, lowest-tally (strange_digit table) 8 m.key (zero_strange table), u.known)) rs w.polynomial.has))

    known : (d - 1 < 3 * length table) × (most_of table (d - 1) ≡ limit_of table (d - 1))
    known = known_digit table (d - 1) (subst (λ (y : ℕ). strange_digit table y ≡ 0) is_digit strange)

    -- it is a variable of the table
    pub letter-there : (d - 1) / 3 < length table
    letter-there = omega (arith, known.0)

    low-least : w.low ≤ d
    low-least = elim (subst (λ (y : ℕ). (y ≡ 0) ⊎ (w.low ≤ y)) (sym w.least)
        (least-one (λ (y : ℕ). (y ≡ 0) ⊎ (w.low ≤ y)) 0 rs (inl refl)
        (all_implies (λ (m : Summand). Ordered w.low 8 m.key) (λ (m : Summand). (lowest 8 m.key ≡ 0) ⊎ (w.low ≤ lowest 8 m.key))
        (λ m u. elim (lowest-least w.low 8 m.key w.low_some u) [ inl y ↦ inl y.0 | inr y ↦ inr y ]) rs w.ordered))) [ inl e ↦ absurd (h e) | inr l ↦ l ]

    ordered-d : AllOrdered d rs
    ordered-d = raise rs w.ordered (subst (λ (y : ℕ). All (λ (m : Summand). (lowest 8 m.key ≡ 0) ⊎ (y ≤ lowest 8 m.key)) rs) (sym w.least) (least_all 0 rs).1)
      where
        raise : (rs : List Summand) → AllOrdered w.low rs → All (λ (m : Summand). (lowest 8 m.key ≡ 0) ⊎ (d ≤ lowest 8 m.key)) rs → AllOrdered d rs
        raise [] o a = tt
        raise (m ∷ rs) o a = (lowest-raise w.low 8 d m.key w.low_some o.0 a.0, raise rs o.1 a.1)

    some : 1 ≤ d
    some = omega arith

    module _ (m : ℕ) (e : m ≡ most_of table (d - 1)) where
      -- its largest number is at most 6
      pub most-six : m ≤ 6
      most-six = omega (arith, e, most-few table (d - 1))

      weights : (v : ℕ) → v ≤ m → (k : ℕ) → v ^ exponent 8 d k * weight table (rest 8 d k) ≤ weight table k
      weights v l k =
          subst (λ (y : ℕ). v ^ exponent 8 y k * weight table (rest 8 y k) ≤ weight table k) (sym is_digit)
          (weight-step table (d - 1) v k (N.le_trans l (N.le_of_eq e)))

      -- no number for it leaves 64 bits
      pub fits : (v : ℕ) → v ≤ m → Substitutable d v rs
      fits v l =
          record {
            digit = some;
            number = N.le_trans l most-six;
            small = omega (arith, mass-size (weight table) (weight_some table) (map (put_for d v) rs), reduced-size (weight table) d v (weights v l) rs, w.polynomial.small);
          }

      exponents : All (λ (t : Summand). exponent 8 d t.key ≤ m) rs
      exponents =
          all_implies (λ (t : Summand). Has table 6 2 t.key) (λ (t : Summand). exponent 8 d t.key ≤ m)
          (λ t u. subst (λ (y : ℕ). exponent 8 y t.key ≤ m) (sym is_digit) (N.le_trans (exponent-limit table (d - 1) t.key u) (N.le_of_eq (sym e)))) rs w.polynomial.has

      module _ (v : ℕ) (f : FirstNumber rs d m v) where
        -- the number chosen leaves a summand
        survived : is_some (substituted d v rs) ≡ true
        survived =
            elim f.found [
              | inl u ↦ u
              | inr u ↦ subst (λ (y : ℕ). is_some (substituted d y rs) ≡ true) (sym u)
                  (survives d m some rs w.polynomial.some w.polynomial.rising ordered-d exponents (λ y l. f.before y (N.le_trans l (N.le_of_eq (sym u)))))
            ]

        -- it is at most 6
        pub number_small : v ≤ 6
        number_small = N.le_trans f.few most-six

        has_next : All (λ (t : Summand). Has table 6 2 t.key) (substituted d v rs)
        has_next =
            substituted-keys (λ k. Ordered d 8 k × Has table 6 2 k) (Has table 6 2) d v (λ k u. has_rest table 6 2 d k some u) rs
            (both_all (λ (t : Summand). Ordered d 8 t.key) (λ (t : Summand). Has table 6 2 t.key) rs ordered-d w.polynomial.has)

        polynomial_next : Polynomial table (substituted d v rs)
        unfolding substituted
        polynomial_next =
            record {
              rising = substituted-rising d v some rs ordered-d w.polynomial.rising;
              some = survived;
              has = has_next;
              small = omega (arith, like-size (weight table) (map (put_for d v) rs), reduced-size (weight table) d v (weights v f.few) rs, w.polynomial.small);
            }

        module _ (room : buffer_bytes ≤ length b₀) (letters : length table ≤ 24) where
          -- it has a place in the buffer
          pub byte-there : d - 1 < length b
          byte-there = omega (arith, w.same, known.0)

          other_byte : (y : ℕ) → ¬ (y ≡ d - 1) → get_or (set b (d - 1) v) y 0 ≡ get_or b y 0
          other_byte y q = get_or-set_other b (d - 1) y v 0 q

          within_next : (y : ℕ) → y < 3 * length table → get_or (set b (d - 1) v) y 0 ≤ limit_of table y
          within_next y l = go (eqb y (d - 1)) refl
            where
              go : (t : Bool) → eqb y (d - 1) ≡ t → get_or (set b (d - 1) v) y 0 ≤ limit_of table y
              go true q =
                  let r : y ≡ d - 1 = eqb-true y (d - 1) q in
                  rw (r, get_or-set_same b (d - 1) v 0 byte-there) (N.le_trans f.few (N.le_of_eq (e ∙ known.1)))
              go false q = rw (other_byte y (eqb-false y (d - 1) q)) (w.within y l)

          value_next : (σ : ℕ → ℤ) → ((y : ℕ) → suc y < suc d → σ y ≡ pos (get_or (set b (d - 1) v) y 0)) → total σ ms ≡ total σ (substituted d v rs)
          value_next σ g =
              w.value σ (λ y l. g y (omega (arith, l, low-least)) ∙ ap pos (other_byte y (λ q. omega (arith, q, l, low-least))))
              ∙ sym (substituted_value σ d v (at-digit σ d (d - 1) v is_digit (g (d - 1) (omega arith) ∙ ap pos (get_or-set_same b (d - 1) v 0 byte-there))) rs)

          zeros_next : (y : ℕ) → y < 3 * length table → suc d ≤ suc y → get_or (set b (d - 1) v) y 0 ≡ 0
          zeros_next y l k = other_byte y (λ q. omega arith) ∙ w.zeros y l (omega (arith, low-least))

          -- a lesser number for it leaves nothing
          first_here : ZeroBelow table ms (set b (d - 1) v) (d - 1)
          unfolding Gives
          first_here s σ g a k =
              let u = get_or s (d - 1) 0 in
              let less : u < v = N.le_trans k (N.le_of_eq (get_or-set_same b (d - 1) v 0 byte-there)) in
              w.value σ
              (λ y l. g y (omega (arith, l, low-least, known.0)) ∙ ap pos (a y (omega (arith, l, low-least)) ∙ other_byte y (λ q. omega (arith, q, l, low-least))))
              ∙ sym (substituted_value σ d u (at-digit σ d (d - 1) u is_digit (g (d - 1) known.0)) rs)
              ∙ none_weighs (key_value σ 8) (substituted d u rs) (f.before u less)

          first_next : (x : ℕ) → suc x < suc d → ZeroBelow table ms (set b (d - 1) v) x
          first_next x l s σ g a k = go (eq-or-ne x (d - 1))
            where
              go : (x ≡ d - 1) ⊎ ¬ (x ≡ d - 1) → total σ ms ≡ pos 0
              go (inl q) =
                  first_here s σ g (λ y h. a y (omega arith)) (subst (λ (y : ℕ). get_or s y 0 < get_or (set b (d - 1) v) y 0) q k)
              go (inr q) =
                  below-zero x (omega (arith, l, known.0)) s σ g (λ y h. a y h ∙ other_byte y (λ r. omega arith)) (N.le_trans k (N.le_of_eq (other_byte x q)))

          -- one number is chosen and written
          pub choose_on : (r : ℕ) (os ns : List Summand) (k : ℕ) (b' : List ℕ) → Substituted d v k r os ns → rs ≡ take k os → b' ≡ set b (d - 1) v → (d' : ℕ) → d' ≡ least_from 0 (take r ns)
              → Choosing table ms (take r ns) d' b₀ b'
          choose_on r os ns k b' s q p d' z =
              let is : take r ns ≡ substituted d v rs = s.is ∙ ap (substituted d v) (sym q) in
              record {
                least = z;
                low = suc d;
                low_some = omega arith;
                low_most = omega (arith, known.0);
                ordered = subst (AllOrdered (suc d)) (sym is) (substituted-ordered d v some rs ordered-d);
                polynomial = subst (Polynomial table) (sym is) polynomial_next;
                value = λ σ g. value_next σ (λ y l. g y l ∙ ap (λ (t : List ℕ). pos (get_or t y 0)) p) ∙ ap (total σ) (sym is);
                within = λ y l. subst (λ (t : List ℕ). get_or t y 0 ≤ limit_of table y) (sym p) (within_next y l);
                zeros = λ y l h. ap (λ (t : List ℕ). get_or t y 0) p ∙ zeros_next y l h;
                first = λ x l. subst (λ (t : List ℕ). ZeroBelow table ms t x) (sym p) (first_next x l);
                behind = ap (drop (3 * length table)) p ∙ drop-set-lt (3 * length table) b (d - 1) v known.0 ∙ w.behind;
                same = ap length p ∙ length-set b (d - 1) v ∙ w.same;
              }

          -- and the least digit grows, until there is none
          pub choose-falls : (r : ℕ) (os ns : List Summand) (k : ℕ) → Substituted d v k r os ns → rs ≡ take k os → (d' : ℕ) → d' ≡ least_from 0 (take r ns) → fall_of d' < fall_of d
          choose-falls r os ns k s q d' z =
              let is : take r ns ≡ substituted d v rs = s.is ∙ ap (substituted d v) (sym q) in
              falls d d' h (omega (arith, known.0))
              (subst (λ (y : ℕ). (y ≡ 0) ⊎ (suc d ≤ y)) (sym z)
              (least-one (λ (y : ℕ). (y ≡ 0) ⊎ (suc d ≤ y)) 0 (take r ns) (inl refl)
              (all_implies (λ (t : Summand). Ordered (suc d) 8 t.key) (λ (t : Summand). (lowest 8 t.key ≡ 0) ⊎ (suc d ≤ lowest 8 t.key))
              (λ t u. elim (lowest-least (suc d) 8 t.key (omega arith) u) [ inl y ↦ inl y.0 | inr y ↦ inr y ]) (take r ns)
              (subst (AllOrdered (suc d)) (sym is) (substituted-ordered d v some rs ordered-d)))))
