-- Bytes at a position: behind the text, past blanks, letters, three names in parentheses, the number of a name, numbers in decimal. Assumes nothing.
use mathlib.Core.Path.{◌≡◌, refl, sym, ◌∙◌, ap}
use mathlib.Core.Bool.{Bool, true, false, true≢false, ◌&&◌, ◌||◌}
use mathlib.Core.List.{List, [], ◌∷◌}
use mathlib.Core.Logic.{◌⊎◌, inl, inr}
use Prim.Native.Nat.{ℕ, zero, suc, ◌+◌, ◌*◌, ◌-◌, ◌≤◌, ◌<◌, max}
use native.Mathlib.Omega.{arith}
use native.Mathlib.Numerals.{add-one}
use lib.ListN.{length, get_or, drop, drop_of_length-le, get_or-eq_default}
use borrow.Author.Tests.{le-leb, lt-leb, leb-true, leb-false}
use lib.Dec.{T, leb, eqb, eqb→eq, eqb_refl}
use lib.Seq.{drop-cons, drop-length}
use Rattle.specification.specs.Results.{when◌then◌else◌}
use Rattle.specification.specs.Text.{is_letter, is_digit, skip, next, place_of, is_triple, read_digits}
use Rattle.theory.specs.Tests.{is_true, and-false}
use Rattle.theory.specs.Text.Turns.{skip_turn, digits-turn}
use Rattle.theory.specs.Text.Bounds.{there-letter}
use Rattle.texts.specs.Numbers.{capped}

other : (m n : ℕ) → (m ≡ n → ⊥) → eqb m n ≡ false
other m n h = go (eqb m n) (eqb→eq m n)
  where
    go : (b : Bool) → (T b → m ≡ n) → b ≡ false
    go true f = absurd (h (f tt))
    go false f = refl

-- ════ letters

-- below A
pub letter-below : (b : ℕ) → b < 65 → false ≡ is_letter b
unfolding is_letter
letter-below b h = let k : b < 97 = omega arith in rw (lt-leb 65 b h, lt-leb 97 b k)

-- A to Z
pub letter-upper : (b : ℕ) → 65 ≤ b → b ≤ 90 → true ≡ is_letter b
unfolding is_letter
letter-upper b h k = rw (le-leb 65 b h, le-leb b 90 k)

-- between Z and a
pub letter-between : (b : ℕ) → 90 < b → b < 97 → false ≡ is_letter b
unfolding is_letter
letter-between b h k = rw (lt-leb b 90 h, lt-leb 97 b k, and-false (leb 65 b))

-- from a on
pub letter-above : (b : ℕ) → 90 < b → 97 ≤ b → leb b 122 ≡ is_letter b
unfolding is_letter
letter-above b h k = rw (lt-leb b 90 h, le-leb 97 b k, and-false (leb 65 b))

-- ════ three names in parentheses

module _ (s : List ℕ) where
  -- a letter stands inside the text
  pub letter-inside : (at b : ℕ) (t : Bool) → b ≡ get_or s at 0 → t ≡ is_letter b → t ≡ true → at < length s
  letter-inside at b t p q e = there-letter s at (holds (is_letter (get_or s at 0)) (ap is_letter (sym p) ∙ sym q ∙ e))
    where
      holds : (c : Bool) → c ≡ true → T c
      holds true e = tt
      holds false e = absurd (true≢false (sym e))

  module _ (at p q r : ℕ) (x y z : Bool) (hx : x ≡ is_letter (get_or s at 0)) where
    -- no first name
    pub no_first : x ≡ false → false ≡ is_triple s at
    unfolding is_triple
    no_first e = rw (sym hx ∙ e)

    module _ (hp : p ≡ next s at) (hy : y ≡ is_letter (get_or s p 0)) (ex : x ≡ true) where
      -- no second
      pub no_second : y ≡ false → false ≡ is_triple s at
      unfolding is_triple
      no_second e = rw (sym hx ∙ ex, ap (λ (k : ℕ). is_letter (get_or s k 0)) (sym hp) ∙ sym hy ∙ e)

      module _ (hq : q ≡ next s p) (hz : z ≡ is_letter (get_or s q 0)) (ey : y ≡ true) where
        -- no third
        pub no_third : z ≡ false → false ≡ is_triple s at
        unfolding is_triple
        no_third e =
            rw (
              sym hx ∙ ex,
              ap (λ (k : ℕ). is_letter (get_or s k 0)) (sym hp) ∙ sym hy ∙ ey,
              ap (λ (k : ℕ). is_letter (get_or s k 0)) (ap (next s) (sym hp) ∙ sym hq) ∙ sym hz ∙ e,
            )

        -- three: the closing parenthesis decides
        pub three-names : (b : ℕ) → r ≡ next s q → b ≡ get_or s r 0 → z ≡ true → eqb b 41 ≡ is_triple s at
        unfolding is_triple
        three-names b hr hb e =
            rw (
              sym hx ∙ ex,
              ap (λ (k : ℕ). is_letter (get_or s k 0)) (sym hp) ∙ sym hy ∙ ey,
              ap (λ (k : ℕ). is_letter (get_or s k 0)) (ap (next s) (sym hp) ∙ sym hq) ∙ sym hz ∙ e,
              ap (next s) (ap (next s) (sym hp) ∙ sym hq) ∙ sym hr,
              hb,
            )

-- ════ numbers in decimal

-- a number as it is read: what is behind the digits passed, of which the number is capped
pub record DigitsAt (s : List ℕ) (at n i : ℕ) : Type 0 where
  pub number : ℕ
  pub cap : n ≡ capped number
  pub same : read_digits (length s) 0 s at ≡ read_digits (length s) number s i

cap-again : (v d : ℕ) → capped (capped v * 10 + d) ≡ capped (v * 10 + d)
unfolding capped
cap-again v d = go (leb v 2147483647) refl
  where
    go : (b : Bool) → leb v 2147483647 ≡ b → (when leb ((when b then v else 2147483648) * 10 + d) 2147483647 then (when b then v else 2147483648) * 10 + d else 2147483648)
        ≡ (when leb (v * 10 + d) 2147483647 then v * 10 + d else 2147483648)
    go true e = refl
    go false e =
        let h : 2147483647 < v = leb-false v 2147483647 e in
        let k : 2147483647 < v * 10 + d = omega arith in
        let l : 2147483647 < 21474836480 + d = omega arith in
        rw (lt-leb (v * 10 + d) 2147483647 k, lt-leb (21474836480 + d) 2147483647 l)

cap-small : (v : ℕ) → capped v ≤ 2147483648
unfolding capped
cap-small v = go (leb v 2147483647) (leb-true v 2147483647)
  where
    go : (b : Bool) → (b ≡ true → v ≤ 2147483647) → (when b then v else 2147483648) ≤ 2147483648
    go true f = omega (arith, f refl)
    go false f = omega arith

-- what is capped stays small
pub digits-small : (s : List ℕ) (at n i : ℕ) → DigitsAt s at n i → n ≤ 2147483648
digits-small s at n i h = omega (arith, h.cap, cap-small h.number)

-- at first
pub digits-begin : (s : List ℕ) (at : ℕ) → DigitsAt s at 0 at
unfolding capped
digits-begin s at = record { number = 0; cap = refl; same = refl }

-- a digit is at least 48
pub digit-from : (b : ℕ) (t : Bool) → t ≡ is_digit b → t ≡ true → 48 ≤ b
unfolding is_digit
digit-from b t h e = leb-true 48 b (and_left (leb 48 b) (leb b 57) (sym h ∙ e))
  where
    and_left : (x y : Bool) → (x && y) ≡ true → x ≡ true
    and_left true y e = refl
    and_left false y e = e

-- one digit more
pub digits_more : (s : List ℕ) (at n i m : ℕ) (t : Bool) → DigitsAt s at n i → t ≡ is_digit (get_or s i 0) → t ≡ true
    → m ≡ capped (n * 10 + (get_or s i 0 - 48)) → DigitsAt s at m (i + 1)
digits_more s at n i m t h d e p = record {
  number = h.number * 10 + (get_or s i 0 - 48);
  cap = p ∙ ap (λ (k : ℕ). capped (k * 10 + (get_or s i 0 - 48))) h.cap ∙ cap-again h.number (get_or s i 0 - 48);
  same = h.same ∙ digits-turn s h.number i ∙ rw (sym d ∙ e);
}

-- no digit more
pub digits-stop : (s : List ℕ) (at n i : ℕ) → DigitsAt s at n i → is_digit (get_or s i 0) ≡ false
    → (n ≡ capped (read_digits (length s) 0 s at).0) × (i ≡ (read_digits (length s) 0 s at).1)
digits-stop s at n i h d =
    let e : read_digits (length s) 0 s at ≡ (h.number, i) = h.same ∙ digits-turn s h.number i ∙ rw d in
    (h.cap ∙ ap (λ (r : ℕ × ℕ). capped r.0) (sym e), ap (λ (r : ℕ × ℕ). r.1) (sym e))

-- behind the text there is none
pub no_digit-behind : (s : List ℕ) (i : ℕ) → length s ≤ i → is_digit (get_or s i 0) ≡ false
unfolding is_digit
no_digit-behind s i h = rw (get_or-eq_default s 0 h)

-- ════ bytes and blanks

-- behind the text stands 0
pub behind-text : (s : List ℕ) (at : ℕ) → length s ≤ at → 0 ≡ get_or s at 0
behind-text s at h = sym (get_or-eq_default s 0 h)

-- a blank is passed
pub blank-passed : (s : List ℕ) (i : ℕ) → get_or s i 0 ≡ 32 → skip s (i + 1) ≡ skip s i
blank-passed s i e = sym (skip_turn s i ∙ rw e refl)

-- no blank stands there
pub blank_none : (s : List ℕ) (i : ℕ) → (get_or s i 0 ≡ 32 → ⊥) → skip s i ≡ i
blank_none s i h = skip_turn s i ∙ rw (other (get_or s i 0) 32 h) refl

-- nor behind the text
pub blanks_end : (s : List ℕ) (i : ℕ) → length s ≤ i → skip s i ≡ i
blanks_end s i h = skip_turn s i ∙ rw (get_or-eq_default s 0 h) refl

-- a text passed to its end: the position is its length, or where the passing began beyond it
pub passed-to_end : (s : List ℕ) (at i m : ℕ) → length s ≤ i → at ≤ i → (at ≤ length s → i ≤ length s) → m ≡ max at (length s) → (m ≡ i) ⊎ ((m ≡ at) × (length s ≤ at))
passed-to_end s at i m h k f e = go (leb at (length s)) (leb-true at (length s)) (leb-false at (length s))
  where
    go : (b : Bool) → (b ≡ true → at ≤ length s) → (b ≡ false → length s < at) → (m ≡ i) ⊎ ((m ≡ at) × (length s ≤ at))
    go true t u = let l : at ≤ length s = t refl in inl (omega (arith, f l, e, h))
    go false t u = let l : length s < at = u refl in inr (omega (arith, e), omega arith)

-- ════ the number of a name

-- the name stands there
pub place_found : (names : List ℕ) (i b : ℕ) → i < length names → get_or names i 0 ≡ b → i + place_of (drop i names) b ≡ i
unfolding place_of
place_found names i b h e = rw (drop-cons names i 0 h, e, is_true (eqb b b) (eqb_refl b)) (omega arith)

-- another stands there
pub place-passed : (names : List ℕ) (i b : ℕ) → i < length names → (get_or names i 0 ≡ b → ⊥) → i + place_of (drop i names) b ≡ i + 1 + place_of (drop (i + 1) names) b
unfolding place_of
place-passed names i b h e = rw (drop-cons names i 0 h, other (get_or names i 0) b e, add-one) (omega arith)

-- it is not declared
pub place_none : (names : List ℕ) (i b : ℕ) → length names ≤ i → i + place_of (drop i names) b ≡ i
unfolding place_of
place_none names i b h = rw (drop_of_length-le names h) (omega arith)
