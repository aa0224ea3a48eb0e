-- Numbers taken by a mask, one after the other; what a mask leaves is what the other mask takes. Assumes nothing.
use mathlib.Core.Path.{◌≡◌, refl, sym, ap, subst, ◌∙◌}
use mathlib.Core.Bool.{Bool, true, false}
use mathlib.Core.Logic.{◌⊎◌, inl, inr}
use mathlib.Core.List.{List, [], ◌∷◌, ◌++◌, map, append-nil}
use Prim.Native.Nat.{ℕ, zero, suc, ◌+◌, ◌-◌, ◌/◌, ◌%◌, ◌^◌, ◌<◌, ◌≤◌}
use native.Mathlib.Nat as N
use native.Mathlib.Omega.{arith}
use lib.Count.{ones, ones_step}
use lib.Dec.{eqb}
use lib.ListN.{length, get_or, take, drop, set, length-set}
use lib.Pow.{pow_mono}
use lib.Seq.{length-take-le, append_snoc}
use Rattle.specification.specs.Results.{when◌then◌else◌}
use Rattle.theory.specs.Elements.{All, all_implies}
use Rattle.theory.specs.Order.{nat-laws}
use Rattle.theory.specs.Sorting as O
use Rattle.theory.specs.Shortening.Masks.{taken, left_over}
use Rattle.terms.proofs.Arrays.{rest_at, nothing_left_lem, stored-behind}
use Rattle.picks.specs.Choosing.{MaskTaken, bit_digits}

module _ {A : Type 0} where
  pub taken_map : {B : Type 0} (f : A → B) (k : ℕ) (l : List A) → taken k (map f l) ≡ map f (taken k l)
  unfolding taken
  taken_map f k [] = refl
  taken_map {B} f k (x ∷ l) = go (eqb (k % 2) 1) (taken_map f (k / 2) l)
    where
      go : (b : Bool) → {r : List B} → r ≡ map f (taken (k / 2) l) → (when b then f x ∷ r else r) ≡ map f (when b then x ∷ taken (k / 2) l else taken (k / 2) l)
      go true e = ap (λ (r : List B). f x ∷ r) e
      go false e = e

  -- what a mask leaves, the other mask takes
  pub left_taken : (l : List A) (k : ℕ) → k < 2 ^ length l → left_over k l ≡ taken (2 ^ length l - 1 - k) l
  unfolding taken left_over
  left_taken [] k h = refl
  left_taken (x ∷ l) k h =
      let two : 2 ^ suc (length l) ≡ 2 ^ length l + 2 ^ length l = N.two-pow-succ (length l) in
      let half : 2 ^ length l - 1 - k / 2 ≡ (2 ^ suc (length l) - 1 - k) / 2 = omega (arith, two) in
      go two (left_taken l (k / 2) (omega (arith, two)) ∙ ap (λ (m : ℕ). taken m l) half) (k % 2) refl
    where
      go : 2 ^ suc (length l) ≡ 2 ^ length l + 2 ^ length l → left_over (k / 2) l ≡ taken ((2 ^ suc (length l) - 1 - k) / 2) l
          → (b : ℕ) → k % 2 ≡ b → left_over k (x ∷ l) ≡ taken (2 ^ suc (length l) - 1 - k) (x ∷ l)
      go two rest zero e = let other : (2 ^ suc (length l) - 1 - k) % 2 ≡ 1 = omega (arith, two) in rw (e, other) (ap (λ (r : List A). x ∷ r) rest)
      go two rest (suc zero) e = let other : (2 ^ suc (length l) - 1 - k) % 2 ≡ 0 = omega (arith, two) in rw (e, other) rest
      go two rest (suc (suc b)) e = absurd (omega arith)

  -- together they are all
  pub taken_left-long : (k : ℕ) (l : List A) → length (taken k l) + length (left_over k l) ≡ length l
  unfolding taken left_over
  taken_left-long k [] = refl
  taken_left-long k (x ∷ l) = go (eqb (k % 2) 1) (taken_left-long (k / 2) l)
    where
      go : (b : Bool) → length (taken (k / 2) l) + length (left_over (k / 2) l) ≡ length l
          → length (when b then x ∷ taken (k / 2) l else taken (k / 2) l) + length (when b then left_over (k / 2) l else x ∷ left_over (k / 2) l) ≡ suc (length l)
      go true e = omega arith
      go false e = omega arith

  pub taken_all : (P : A → Type 0) (k : ℕ) (l : List A) → All P l → All P (taken k l)
  unfolding taken
  taken_all P k [] a = tt
  taken_all P k (x ∷ l) a = go (eqb (k % 2) 1) (taken_all P (k / 2) l a.1)
    where
      go : (b : Bool) → All P (taken (k / 2) l) → All P (when b then x ∷ taken (k / 2) l else taken (k / 2) l)
      go true w = (a.0, w)
      go false w = w

-- a bit that is not 1
pub even : (b : ℕ) → (b % 2 ≡ 1 → ⊥) → b % 2 ≡ 0
even b e = go (b % 2) refl
  where
    go : (r : ℕ) → b % 2 ≡ r → b % 2 ≡ 0
    go zero q = q
    go (suc zero) q = absurd (e q)
    go (suc (suc r)) q = absurd (omega arith)

-- ════ how many a mask takes

-- as many as bits stand
taken_count : {A : Type 0} (k : ℕ) (l : List A) → k < 2 ^ length l → length (taken k l) ≡ ones k
unfolding taken ones
taken_count k [] h = let z : 0 ≡ k = omega arith in ap ones z
taken_count {A} k (x ∷ l) h = go (k % 2) refl (taken_count (k / 2) l (omega (arith, N.two-pow-succ (length l)))) ∙ sym (ones_step k)
  where
    go : (b : ℕ) → k % 2 ≡ b → length (taken (k / 2) l) ≡ ones (k / 2) → length (when eqb b 1 then x ∷ taken (k / 2) l else taken (k / 2) l) ≡ b + ones (k / 2)
    go zero e ih = ih ∙ sym (N.zero-add (ones (k / 2)))
    go (suc zero) e ih = omega (arith, ih)
    go (suc (suc b)) e ih = absurd (omega arith)

digits_at : (from n j : ℕ) → j < n → get_or (bit_digits from n) j 0 ≡ 48 + ones (from + j)
unfolding bit_digits
digits_at from zero j h = absurd (omega arith)
digits_at from (suc n) zero h = ap (λ (k : ℕ). 48 + ones k) (sym (N.add-zero from))
digits_at from (suc n) (suc j) h = digits_at (from + 1) n j (omega arith) ∙ ap (λ (k : ℕ). 48 + ones k) (omega arith)

-- by the digits
pub taken_counted : {A : Type 0} (digits : List ℕ) (j : ℕ) (l : List A) → digits ≡ bit_digits 0 64 → length l ≤ 6 → j < 2 ^ length l
    → get_or digits j 0 ≡ 48 + length (taken j l)
taken_counted {A} digits j l e few h =
    let below : j < 64 = N.lt_of_lt_of_le h (pow_mono few) in
    ap (λ (c : List ℕ). get_or c j 0) e ∙ digits_at 0 64 j below ∙ ap (λ (k : ℕ). 48 + ones k) (N.zero-add j) ∙ ap (λ (n : ℕ). 48 + n) (sym (taken_count j l h))

-- ════ a mask that leaves the first number of an ascending list

rises_all : (b : ℕ) (l : List ℕ) → O.Asc nat-laws (b ∷ l) → All (λ (n : ℕ). b ≤ n) (b ∷ l)
rises_all b [] a = (omega arith, tt)
rises_all b (x ∷ l) a = (
  omega arith,
  all_implies (λ (n : ℕ). x ≤ n) (λ (n : ℕ). b ≤ n) (λ n h. omega (arith, not-less b x a.0)) (x ∷ l) (rises_all x l a.1),
)
  where
    not-less : (b x : ℕ) → (b < x) ⊎ (b ≡ x) → b ≤ x
    not-less b x (inl h) = omega arith
    not-less b x (inr e) = omega arith

first_of : (P : ℕ → Type 0) (l : List ℕ) → All P l → 0 < length l → P (get_or l 0 0)
first_of P [] a h = absurd (omega arith)
first_of P (x ∷ l) a h = a.0

-- what it takes begins with more than what it leaves, unless the second number is the first
pub left_first : (l : List ℕ) (j : ℕ) → O.Asc nat-laws l → j % 2 ≡ 0 → get_or l 0 0 < get_or l 1 0 → 0 < length (taken j l)
    → get_or (left_over j l) 0 0 < get_or (taken j l) 0 0
unfolding taken left_over
left_first [] j a e h t = absurd (omega arith)
left_first (x ∷ []) j a e h t = absurd (omega arith)
left_first (x ∷ y ∷ l) j a e h t =
    let some : 0 < length (taken (j / 2) (y ∷ l)) = rw e at t in
    let big : y ≤ get_or (taken (j / 2) (y ∷ l)) 0 0 = first_of (λ (n : ℕ). y ≤ n) (taken (j / 2) (y ∷ l)) (taken_all (λ (n : ℕ). y ≤ n) (j / 2) (y ∷ l)
    (rises_all y l a.1)) some in
    rw e (omega (arith, big, h))

-- ════ one number after the other

-- those taken so far stand in front, the others are taken by what is left of the mask
pub record Under (l : List ℕ) (mask : ℕ) (to : List ℕ) (b c i : ℕ) : Type 0 where
  pub is : take c to ++ taken b (drop i l) ≡ taken mask l
  pub few : c ≤ i
  pub places : length to ≡ 7

pub under_as : {l to to' : List ℕ} {mask b c c' i : ℕ} → to ≡ to' → c ≡ c' → Under l mask to' b c' i → Under l mask to b c i
under_as {l} {to} {to'} {mask} {b} {c} {c'} {i} e q u =
    subst (λ (t : List ℕ). Under l mask t b c i) (sym e) (subst (λ (n : ℕ). Under l mask to' b n i) (sym q) u)

module _ (from : List ℕ) (n mask : ℕ) (h : n ≤ length from) (seven : n ≤ 7) where
  -- nothing yet
  pub under_none : (to : List ℕ) → length to ≡ 7 → Under (take n from) mask to mask 0 0
  under_none to e = record { is = refl; few = omega arith; places = e }

  module _ (to : List ℕ) (b c i : ℕ) (g : i < n) (u : Under (take n from) mask to b c i) where
    -- one taken
    pub under_taken : b % 2 ≡ 1 → Under (take n from) mask (set to c (get_or from i 0)) (b / 2) (c + 1) (i + 1)
    unfolding taken
    under_taken e =
        let inside : c < length to = omega (arith, u.few, u.places) in
        record {
          is = ap (λ (k : List ℕ). k ++ taken (b / 2) (drop (i + 1) (take n from))) (stored-behind to c (get_or from i 0) inside)
              ∙ append_snoc (take c to) (get_or from i 0) (taken (b / 2) (drop (i + 1) (take n from)))
              ∙ sym (ap (λ (k : List ℕ). take c to ++ taken b k) (rest_at from n i 0 h g) ∙ rw e)
              ∙ u.is;
          few = omega (arith, u.few);
          places = length-set to c (get_or from i 0) ∙ u.places;
        }

    -- one left
    pub under_left : (b % 2 ≡ 1 → ⊥) → Under (take n from) mask to (b / 2) c (i + 1)
    unfolding taken
    under_left e =
        let z : b % 2 ≡ 0 = even b e in
        record {
          is = sym (ap (λ (k : List ℕ). take c to ++ taken b k) (rest_at from n i 0 h g) ∙ rw z) ∙ u.is;
          few = omega (arith, u.few);
          places = u.places;
        }

  -- all passed
  pub under_all : (to : List ℕ) (b c i : ℕ) → i ≡ n → Under (take n from) mask to b c i → MaskTaken (take n from) mask to c
  unfolding taken
  under_all to b c i g u =
      let is : take c to ≡ taken mask (take n from) = sym (append-nil (take c to)) ∙ sym (ap (λ (k : List ℕ). take c to ++ taken b k)
      (nothing_left_lem from n i h (omega arith))) ∙ u.is in
      record { is = is; few = omega (arith, u.few, length-take-le n from h); places = u.places }
