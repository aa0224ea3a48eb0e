-- Pieces of text, one behind the other; a number by its digits. Assumes nothing.
use mathlib.Core.Path.{◌≡◌, refl, sym, ◌∙◌, ap, subst}
use mathlib.Core.Bool.{true, false, true≢false}
use mathlib.Core.List.{List, [], ◌∷◌, ◌++◌, append_assoc, append-nil}
use Prim.Native.Nat.{ℕ, zero, suc, ◌+◌, ◌-◌, ◌/◌, ◌%◌, ◌^◌, ◌≤◌, ◌<◌}
use native.Mathlib.Omega.{arith}
use native.Mathlib.Numerals.{add-one}
use borrow.Author.Tests.{lt-ltb, le-ltb}
use lib.IntN.{ℤ, pos, negsuc, nat_abs}
use lib.ListN.{length, get_or, take, set, length-append, length-set}
use lib.Seq.{take-suc-set, take-suc, take-length}
use Rattle.std.proofs.lemmas.Slice.{take-put_mid}
use borrow.Rule.Slice.PartMut.{put_mid, mid_of, same_len_mid}
use Rattle.specification.specs.Printing.{digits}
use Rattle.specification.specs.Commands.{numeral, signed_numeral, blanks}
use Rattle.integers.specs.Arithmetic.{is_negative}
use Rattle.symbols.proofs.Decimals.{digits_same}
use Rattle.telling.specs.Told.{Told, Tells}

-- ════ pieces

-- one piece behind the other
pub tells-then : {l m n : List ℕ} {at k next : ℕ} {xs ys : List ℕ} → Tells l m at k xs → Tells m n k next ys → Tells l n at next (xs ++ ys)
tells-then {l} {m} {n} {at} {k} {next} {xs} {ys} p q =
    record { is = λ text h. subst (Told n next) (append_assoc text xs ys) (q.is (text ++ xs) (p.is text h)) }

-- the same piece in other words
pub tells_as : {l m : List ℕ} {at next : ℕ} {xs : List ℕ} (ys : List ℕ) → xs ≡ ys → Tells l m at next xs → Tells l m at next ys
tells_as {l} {m} {at} {next} ys e h = subst (Tells l m at next) e h

-- nothing
pub tells-nothing : (l : List ℕ) (at : ℕ) → Tells l l at at []
tells-nothing l at = record { is = λ text h. subst (Told l at) (sym (append-nil text)) h }

-- nothing is told at the beginning
pub told-nothing : (out : List ℕ) → Told out 0 []
told-nothing out = record { ends = λ _. refl; stands = λ _. refl; short = λ h. absurd (omega arith) }

-- what is told at the beginning
pub told_first : {l m : List ℕ} {next : ℕ} {xs : List ℕ} → Tells l m 0 next xs → Told m next xs
told_first {l} h = h.is [] (told-nothing l)

-- ════ bytes copied

module _ (l : List ℕ) (at : ℕ) (word : List ℕ) where
  -- there was no room before
  pub put-beyond : length l < at → Tells l l at at word
  put-beyond h = record {
    is = λ text t. record {
      ends = λ q. absurd (omega arith);
      stands = λ q. absurd (omega arith);
      short = λ q. omega (arith, t.short h, length-append text word);
    };
  }

  -- there is none for the piece
  pub put_short : at ≤ length l → length l - at < length word → Tells l l at (length l + 1) word
  put_short h k = record {
    is = λ text t. record {
      ends = λ q. absurd (omega arith);
      stands = λ q. absurd (omega arith);
      short = λ q. omega (arith, t.ends h, length-append text word);
    };
  }

  -- the piece is copied
  pub put_all : at ≤ length l → length word ≤ length l - at → (k : ℕ) (m : List ℕ) → m ≡ word → length m ≡ length (mid_of at k l) → Tells l (put_mid at k l m) at (at + length word) word
  put_all h room k m e f =
      let same : length (put_mid at k l m) ≡ length l = same_len_mid at k l m f in
      record {
        is = λ text t. record {
          ends = λ q. omega (arith, t.ends h, length-append text word);
          stands = λ q.
              take-put_mid at k l m (at + length word) (ap (λ (x : List ℕ). at + length x) (sym e)) h
              ∙ (λ j. t.stands h j ++ e j);
          short = λ q. absurd (omega (arith, same));
        };
      }

-- ════ blanks

-- a blank in front or behind is the same
blank-behind : (n : ℕ) → blanks n ++ 32 ∷ [] ≡ blanks (suc n)
unfolding blanks
blank-behind zero = refl
blank-behind (suc n) = ap (λ (l : List ℕ). 32 ∷ l) (blank-behind n)

-- none is told yet
pub blanks-begin : (l : List ℕ) (at : ℕ) → Tells l l at at (blanks 0)
unfolding blanks
blanks-begin l at = tells-nothing l at

-- one more
pub blanks_more : {l m k : List ℕ} {at next after : ℕ} (n : ℕ) → Tells l m at next (blanks n) → Tells m k next after (32 ∷ []) → Tells l k at after (blanks (n + 1))
blanks_more n h t = tells_as _ (blank-behind n ∙ ap blanks (sym (add-one n))) (tells-then h t)

-- ════ numbers

-- one digit
pub numeral_one : (n : ℕ) → n < 10 → (48 + n) ∷ [] ≡ numeral n
unfolding numeral digits
numeral_one n h = rw (lt-ltb n 10 h)

-- the digits of a tenth, and one more
pub numeral_more : (n : ℕ) → 10 ≤ n → n < 2 ^ 64 → numeral (n / 10) ++ (48 + n % 10) ∷ [] ≡ numeral n
unfolding numeral digits
numeral_more n h g =
    let l : n / 10 < 10 ^ 19 = omega arith in
    sym (rw (le-ltb n 10 h) (ap (λ (l : List ℕ). l ++ (48 + n % 10) ∷ []) (digits_same 18 (n / 10) l)))

-- a number that is not negative
pub signed-plain : (z : ℤ) (n : ℕ) → n ≡ nat_abs z → is_negative z ≡ false → numeral n ≡ signed_numeral z
unfolding signed_numeral is_negative
signed-plain (pos k) n e h = ap numeral e
signed-plain (negsuc k) n e h = absurd (true≢false h)

-- one that is
pub signed-minus : (z : ℤ) (n : ℕ) → n ≡ nat_abs z → is_negative z ≡ true → (45 ∷ []) ++ numeral n ≡ signed_numeral z
unfolding signed_numeral is_negative
signed-minus (pos k) n e h = absurd (true≢false (sym h))
signed-minus (negsuc k) n e h = ap (λ (m : ℕ). 45 ∷ numeral m) e
