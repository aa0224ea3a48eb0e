-- One turn of each pass over summands in bytes. Assumes nothing.
use mathlib.Core.Path.{◌≡◌, refl, sym, ◌∙◌, ap, ap₂}
use mathlib.Core.Bool.{Bool, true, false, not}
use mathlib.Core.List.{List, [], ◌∷◌, ◌++◌, map, append_assoc, append-nil}
use Prim.Native.Nat.{ℕ, ◌+◌, ◌*◌, ◌^◌, ◌≤◌, ◌<◌}
use native.Mathlib.Nat as N
use native.Mathlib.Numerals.{add-one}
use native.Mathlib.Omega.{arith}
use borrow.Author.Tests.{eq-eqb, ne_eqb, le-leb, lt-leb}
use lib.IntN.{ℤ, pos, nat_abs, ◌+ℤ◌, ◌*ℤ◌}
use lib.ListN.{length, get_or, take, drop, set, length-set}
use lib.Seq.{take-suc-set, drop-set-lt, get_or-drop}
use Rattle.algebra.specs.Integers.{nat_abs_+ℤ, nat_abs_*ℤ}
use Rattle.algebra.specs.Lists.{drop-further}
use Rattle.specification.specs.Terms.{is_zero}
use Rattle.terms.proofs.Arrays.{rest_at, nothing_left_lem}
use Rattle.polynomials.specs.declared.passes.Loaded.{Loaded}
use Rattle.polynomials.specs.Keys.{rest, exponent, lowest}
use Rattle.polynomials.specs.Summands.{Summand, size, mass, kept, onto, like_added, put_for, substituted, is_some}
use Rattle.polynomials.specs.Memory.{summand, none}
use Rattle.polynomials.specs.Passes.{loaded_of, Substitutable, Kept, Substituted, lesser_of, least_from}
use Rattle.polynomials.proofs.Summands.{kept-null, kept-not, onto-like, onto-apart}
use Rattle.polynomials.proofs.Digits.{exponent-few}

-- ════ a summand put_for

-- as the function makes it: y is read, p is the power, and e the exponent
module _ (d v key : ℕ) (y p : ℤ) (e : ℕ) (x : Summand) (k : key ≡ x.key) (c : y ≡ x.coef) (g : e ≡ exponent 8 d key) (q : p ≡ pos (v ^ e)) where
  product_is : y *ℤ p ≡ (put_for d v x).coef
  unfolding put_for
  product_is = ap₂ (λ (a b : ℤ). a *ℤ b) c (q ∙ ap (λ (z : ℕ). pos (v ^ z)) (g ∙ ap (exponent 8 d) k))

  -- the product fits 64 bits
  pub reduced-asks : nat_abs (put_for d v x).coef < 2 ^ 62 → nat_abs y * nat_abs p < 2 ^ 63
  reduced-asks h = omega (arith, nat_abs_*ℤ y p, ap nat_abs product_is)

  -- and is the summand put_for
  pub reduced-made : (r : Loaded) → r.key ≡ rest 8 d key → r.coef ≡ y *ℤ p → loaded_of r ≡ put_for d v x
  unfolding loaded_of put_for
  reduced-made r a b = ap₂ summand (a ∙ ap (rest 8 d) k) (b ∙ product_is)

-- ════ the summands not read yet

-- kept in front is kept alone, and the others behind
kept-front : (m : Summand) (ms : List Summand) → kept m ms ≡ kept m [] ++ ms
kept-front m ms = go (is_zero m.coef) refl
  where
    go : (b : Bool) → is_zero m.coef ≡ b → kept m ms ≡ kept m [] ++ ms
    go true e = rw (kept-null m ms e, kept-null m [] e)
    go false e = rw (kept-not m ms e, kept-not m [] e)

-- what is known in a pass: key and c are added up so far, and the summands from i on are not read yet
pub record Passing (d v : ℕ) (ms : List Summand) (front : List Summand) (i key : ℕ) (c : ℤ) : Type 0 where
  pub is : front ++ onto (summand key c) (map (put_for d v) (drop i ms)) ≡ substituted d v ms
  pub small : nat_abs c + mass (map (put_for d v) (drop i ms)) < 2 ^ 62

module _ (d v : ℕ) (ms : List Summand) (n : ℕ) (h : n ≤ length ms) where
  -- the first is read
  module _ (o : ¬ (n ≡ 0)) (f : Substitutable d v (take n ms)) where
    first_split : take n ms ≡ get_or ms 0 none ∷ drop 1 (take n ms)
    first_split = rest_at ms n 0 none h (omega arith)

    -- its coefficient is small
    pub first_small : nat_abs (put_for d v (get_or ms 0 none)).coef < 2 ^ 62
    unfolding size
    first_small = let z = rw first_split at f.small in omega arith

    -- nothing is added yet
    pub pass-starts : (s : Loaded) (c : ℤ) → loaded_of s ≡ put_for d v (get_or ms 0 none) → c ≡ s.coef → Passing d v (take n ms) [] 1 s.key c
    unfolding size substituted like_added loaded_of
    pass-starts s c e q =
        let g : summand s.key c ≡ put_for d v (get_or ms 0 none) = ap (summand s.key) q ∙ e in
        record {
          is = ap (λ (m : Summand). onto m (map (put_for d v) (drop 1 (take n ms)))) g ∙ sym (ap (λ (l : List Summand). like_added (map (put_for d v) l)) first_split);
          small = let z = rw first_split at f.small in omega (arith, ap (λ (m : Summand). nat_abs m.coef) g);
        }

  -- one more is read
  module _ (i : ℕ) (l : i < n) (front : List Summand) (key : ℕ) (c : ℤ) (w : Passing d v (take n ms) front i key c) where
    turn-split : drop i (take n ms) ≡ get_or ms i none ∷ drop (i + 1) (take n ms)
    turn-split = rest_at ms n i none h l

    sizes : nat_abs c + (nat_abs (put_for d v (get_or ms i none)).coef * 1 + mass (map (put_for d v) (drop (i + 1) (take n ms)))) < 2 ^ 62
    unfolding size
    sizes = rw turn-split at w.small

    -- its coefficient is small
    pub turn_small : nat_abs (put_for d v (get_or ms i none)).coef < 2 ^ 62
    turn_small = omega (arith, sizes)

    module _ (s : Loaded) (e : loaded_of s ≡ put_for d v (get_or ms i none)) (u : ℤ) (q : u ≡ s.coef) where
      g : summand s.key u ≡ put_for d v (get_or ms i none)
      unfolding loaded_of
      g = ap (summand s.key) q ∙ e

      g-size : nat_abs u ≡ nat_abs (put_for d v (get_or ms i none)).coef
      g-size = ap (λ (m : Summand). nat_abs m.coef) g

      unread : front ++ onto (summand key c) (summand s.key u ∷ map (put_for d v) (drop (i + 1) (take n ms))) ≡ substituted d v (take n ms)
      unread =
          ap (λ (m : Summand). front ++ onto (summand key c) (m ∷ map (put_for d v) (drop (i + 1) (take n ms)))) g
          ∙ ap (λ (y : List Summand). front ++ onto (summand key c) (map (put_for d v) y)) (sym turn-split) ∙ w.is

      -- a sum fits 64 bits
      pub sum-asks : nat_abs c + nat_abs u < 2 ^ 63
      sum-asks = omega (arith, sizes, g-size)

      -- a like one is added
      pub turn-like : (c' : ℤ) → s.key ≡ key → c' ≡ c +ℤ u → Passing d v (take n ms) front (i + 1) key c'
      turn-like c' p r =
          record {
            is = ap (λ (y : ℤ). front ++ onto (summand key y) (map (put_for d v) (drop (i + 1) (take n ms)))) r
                ∙ ap (λ (y : List Summand). front ++ y) (sym (onto-like (summand key c) (summand s.key u) (map (put_for d v) (drop (i + 1) (take n ms))) (sym p))) ∙ unread;
            small = omega (arith, sizes, g-size, nat_abs_+ℤ c u, ap nat_abs r);
          }

      -- another key: what was added up is kept
      pub turn-apart : (front' : List Summand) → ¬ (s.key ≡ key) → front' ≡ front ++ kept (summand key c) [] → Passing d v (take n ms) front' (i + 1) s.key u
      turn-apart front' p r =
          let more = onto (summand s.key u) (map (put_for d v) (drop (i + 1) (take n ms))) in
          record {
            is = ap (λ (y : List Summand). y ++ more) r ∙ append_assoc front (kept (summand key c) []) more
                ∙ ap (λ (y : List Summand). front ++ y) (sym (kept-front (summand key c) more))
                ∙ ap (λ (y : List Summand). front ++ y) (sym (onto-apart (summand key c) (summand s.key u) (map (put_for d v) (drop (i + 1) (take n ms))) (λ z. p (sym z)))) ∙ unread;
            small = omega (arith, sizes, g-size);
          }

      -- or it is 0, and dropped
      pub turn_zero : ¬ (s.key ≡ key) → is_zero c ≡ true → Passing d v (take n ms) front (i + 1) s.key u
      turn_zero p z = turn-apart front p (sym (ap (λ (y : List Summand). front ++ y) (kept-null (summand key c) [] z) ∙ append-nil front))

      -- one is left in front
      pub turn_some : ¬ (s.key ≡ key) → is_zero c ≡ false → front ≡ [] → true ≡ is_some (substituted d v (take n ms))
      unfolding is_some
      turn_some p z r =
          let a = onto-apart (summand key c) (summand s.key u) (map (put_for d v) (drop (i + 1) (take n ms))) (λ y. p (sym y)) in
          ap is_some
          (sym (kept-not (summand key c) _ z) ∙ sym a
          ∙ ap (λ (y : List Summand). y ++ onto (summand key c) (summand s.key u ∷ map (put_for d v) (drop (i + 1) (take n ms)))) (sym r) ∙ unread)

  -- all are read
  module _ (i : ℕ) (l : n ≤ i) (front : List Summand) (key : ℕ) (c : ℤ) (w : Passing d v (take n ms) front i key c) where
    -- the last one is kept
    pub pass-ends : front ++ kept (summand key c) [] ≡ substituted d v (take n ms)
    unfolding onto
    pass-ends = ap (λ (y : List Summand). front ++ onto (summand key c) (map (put_for d v) y)) (sym (nothing_left_lem ms n i h l)) ∙ w.is

    -- a summand is left if it is not 0
    pub ends_some : front ≡ [] → not (is_zero c) ≡ is_some (substituted d v (take n ms))
    unfolding is_some kept
    ends_some r = go (is_zero c) refl ∙ ap is_some (ap (λ (y : List Summand). y ++ kept (summand key c) []) (sym r) ∙ pass-ends)
      where
        go : (b : Bool) → is_zero c ≡ b → not b ≡ is_some (kept (summand key c) [])
        go true z = ap is_some (sym (kept-null (summand key c) [] z))
        go false z = ap is_some (sym (kept-not (summand key c) [] z))

-- nothing to read
pub none_left : (d v : ℕ) (ms : List Summand) → substituted d v (take 0 ms) ≡ []
unfolding substituted like_added
none_left d v ms = refl

-- nor is a summand left
pub none-some : (d v n : ℕ) (ms : List Summand) → n ≡ 0 → false ≡ is_some (substituted d v (take n ms))
unfolding is_some substituted like_added
none-some d v n ms e = ap (λ (k : ℕ). is_some (substituted d v (take k ms))) (sym e)

-- ════ a summand kept in memory

-- a coefficient 0 is not written
pub keep_none : (j key : ℕ) (coef : ℤ) (ms : List Summand) → is_zero coef ≡ true → Kept j key coef j ms ms
keep_none j key coef ms e =
    record { front = sym (ap (λ (y : List Summand). take j ms ++ y) (kept-null (summand key coef) [] e) ∙ append-nil (take j ms)); behind = refl; few = omega arith; count = refl }

-- any other is written
pub keep_one : (j key : ℕ) (coef : ℤ) (ms ns : List Summand) → j < length ms → is_zero coef ≡ false → (z : ℤ) → z ≡ coef → ns ≡ set ms j (summand key z) → Kept j key coef (j + 1) ms ns
keep_one j key coef ms ns h e z g q =
    let p : ns ≡ set ms j (summand key coef) = q ∙ ap (λ (y : ℤ). set ms j (summand key y)) g in
    record {
      front = rw (p, add-one) (take-suc-set ms j (summand key coef) h ∙ ap (λ (y : List Summand). take j ms ++ y) (sym (kept-not (summand key coef) [] e)));
      behind = rw p (drop-set-lt (j + 1) ms j (summand key coef) (omega arith));
      few = N.le_refl (j + 1);
      count = ap length p ∙ length-set ms j (summand key coef);
    }

-- ════ the least digit

-- case by case, as the function finds it
pub lesser_first : (a b : ℕ) → a ≡ 0 → b ≡ lesser_of a b
unfolding lesser_of
lesser_first a b e = rw (eq-eqb a 0 e)

pub lesser-second : (a b : ℕ) → ¬ (a ≡ 0) → b ≡ 0 → a ≡ lesser_of a b
unfolding lesser_of
lesser-second a b h e = rw (ne_eqb a 0 h, eq-eqb b 0 e)

pub lesser-le : (a b : ℕ) → ¬ (a ≡ 0) → ¬ (b ≡ 0) → a ≤ b → a ≡ lesser_of a b
unfolding lesser_of
lesser-le a b h g l = rw (ne_eqb a 0 h, ne_eqb b 0 g, le-leb a b l)

pub lesser_gt : (a b : ℕ) → ¬ (a ≡ 0) → ¬ (b ≡ 0) → b < a → b ≡ lesser_of a b
unfolding lesser_of
lesser_gt a b h g l = rw (ne_eqb a 0 h, ne_eqb b 0 g, lt-leb a b l)

module _ (ms : List Summand) (n : ℕ) (h : n ≤ length ms) where
  -- one more key is looked at
  pub least_more : (i d key : ℕ) → i < n → least_from d (drop i (take n ms)) ≡ least_from 0 (take n ms) → key ≡ (get_or ms i none).key → (r : ℕ) → r ≡ lesser_of d (lowest 8 key)
      → least_from r (drop (i + 1) (take n ms)) ≡ least_from 0 (take n ms)
  unfolding least_from
  least_more i d key l p q r z =
      ap (λ (y : ℕ). least_from y (drop (i + 1) (take n ms))) (z ∙ ap (λ (k : ℕ). lesser_of d (lowest 8 k)) q)
      ∙ ap (least_from d) (sym (rest_at ms n i none h l)) ∙ p

  -- all keys are
  pub least-ends : (i d : ℕ) → n ≤ i → least_from d (drop i (take n ms)) ≡ least_from 0 (take n ms) → d ≡ least_from 0 (take n ms)
  unfolding least_from
  least-ends i d l p = ap (least_from d) (sym (nothing_left_lem ms n i h l)) ∙ p

-- ════ a pass that writes

-- ms are the summands at first and ns those now: what is written stands in the first j, and those from i on are as they were
pub record Writing (d v n : ℕ) (ms ns : List Summand) (i j key : ℕ) (c : ℤ) : Type 0 where
  pub passing : Passing d v (take n ms) (take j ns) i key c
  pub unread : drop i ns ≡ drop i ms
  pub before : j < i
  pub some : i ≤ n
  pub count : length ns ≡ length ms

-- nothing is written yet
pub write-starts : (d v n : ℕ) (ms : List Summand) (key : ℕ) (c : ℤ) → ¬ (n ≡ 0) → Passing d v (take n ms) [] 1 key c → Writing d v n ms ms 1 0 key c
write-starts d v n ms key c o w = record { passing = w; unread = refl; before = omega arith; some = omega arith; count = refl }

module _ (d v n : ℕ) (ms ns : List Summand) (h : n ≤ length ms) (i j key : ℕ) (c : ℤ) (w : Writing d v n ms ns i j key c) where
  -- what is read next is as it was
  pub same_read : get_or ns i none ≡ get_or ms i none
  same_read =
      let e : i + 0 ≡ i = omega arith in
      let a = get_or-drop i ns 0 none in
      let b = get_or-drop i ms 0 none in
      ap (λ (k : ℕ). get_or ns k none) (sym e) ∙ sym a ∙ ap (λ (l : List Summand). get_or l 0 none) w.unread ∙ b ∙ ap (λ (k : ℕ). get_or ms k none) e

  -- there is a place to write to
  pub place-there : i ≤ n → j < length ns
  place-there l = omega (arith, w.before, w.count)

  module _ (l : i < n) where
    pub read_there : i < length ns
    read_there = omega (arith, w.count)

    pub read_small : nat_abs (put_for d v (get_or ns i none)).coef < 2 ^ 62
    read_small = rw same_read (turn_small d v ms n h i l (take j ns) key c w.passing)

    module _ (s : Loaded) (e : loaded_of s ≡ put_for d v (get_or ns i none)) (u : ℤ) (q : u ≡ s.coef) where
      e' : loaded_of s ≡ put_for d v (get_or ms i none)
      e' = e ∙ ap (put_for d v) same_read

      -- a sum fits 64 bits
      pub write-asks : nat_abs c + nat_abs u < 2 ^ 63
      write-asks = sum-asks d v ms n h i l (take j ns) key c w.passing s e' u q

      -- a like one is added
      pub write-like : (c' : ℤ) → s.key ≡ key → c' ≡ c +ℤ u → Writing d v n ms ns (i + 1) j key c'
      write-like c' p r =
          record {
            passing = turn-like d v ms n h i l (take j ns) key c w.passing s e' u q c' p r;
            unread = drop-further i (i + 1) ns ms (omega arith) w.unread;
            before = omega (arith, w.before);
            some = omega arith;
            count = w.count;
          }

      -- another key: what was added up is written
      pub write-apart : (r : ℕ) (os : List Summand) → ¬ (s.key ≡ key) → Kept j key c r ns os → Writing d v n ms os (i + 1) r s.key u
      write-apart r os p k =
          record {
            passing = turn-apart d v ms n h i l (take j ns) key c w.passing s e' u q (take r os) p k.front;
            unread = drop-further (j + 1) (i + 1) os ns (omega (arith, w.before)) k.behind ∙ drop-further i (i + 1) ns ms (omega arith) w.unread;
            before = omega (arith, w.before, k.few);
            some = omega arith;
            count = k.count ∙ w.count;
          }

  -- the last one is written
  pub write-ends : n ≤ i → (r : ℕ) (os : List Summand) → Kept j key c r ns os → Substituted d v n r ms os
  write-ends l r os k =
      record {
        is = k.front ∙ pass-ends d v ms n h i l (take j ns) key c w.passing;
        few = omega (arith, w.before, k.few, w.some);
        count = k.count ∙ w.count;
      }

-- there is nothing to do
pub write_none : (d v n : ℕ) (ms : List Summand) → n ≡ 0 → Substituted d v n 0 ms ms
write_none d v n ms e =
    record { is = sym (ap (λ (k : ℕ). substituted d v (take k ms)) e ∙ none_left d v ms); few = omega arith; count = refl }

-- an exponent is at most 8
pub exponent-most : (d key e : ℕ) → e ≡ exponent 8 d key → e ≤ 8
exponent-most d key e g = omega (arith, g, exponent-few 8 d key)
