-- Words, blanks and marks at a position of a line. Assumes nothing.
use Rattle.std.specs.Prelude.{◌≡◌, refl, Bool, true, false, not, ◌&&◌, ◌||◌, take, drop, T, leb}
use Rattle.std.proofs.Math.Path.{sym, ap}
use Rattle.std.proofs.Common.{◌∙◌, true≢false, get_or-drop, leb→le}
use mathlib.Core.List.{List, [], ◌∷◌}
use Prim.Native.Nat.{ℕ, zero, suc, ◌+◌, ◌-◌, ◌≤◌, ◌<◌}
use native.Mathlib.Omega.{arith}
use Rattle.std.proofs.Math.ListN.{length, get_or, length-drop}
use Rattle.std.proofs.Math.Dec.{eqb, nleb→lt}
use borrow.Author.Tests.{le-leb, lt-leb, leb-true, leb-false, eq-eqb}
use Rattle.specification.specs.Text.{placed, past_blanks, skip, next}
use Rattle.specification.specs.Lines.{same_bytes, is_word_at}
use Rattle.specification.specs.LogTexts.{mark}
use Rattle.theory.specs.Text.Positions.{Sharp, stand-byte, stand_next, past_none}

module _ (line : List ℕ) where
  -- where something stands the line has not ended
  pub stands-inside : (a x : ℕ) (l : List ℕ) → drop a line ≡ x ∷ l → a < length line
  stands-inside a x l e = omega (arith, length-drop a line, ap length e)

  -- one blank is passed
  pub skip_blank : (a : ℕ) (l : List ℕ) → drop a line ≡ 32 ∷ l → Sharp l → skip line a ≡ a + 1
  unfolding skip past_blanks
  skip_blank a l e h = go (length line) (stands-inside a 32 l e)
    where
      go : (most : ℕ) → a < most → past_blanks most line a ≡ a + 1
      go zero k = absurd (omega arith)
      go (suc most) k =
          rw (stand-byte line a (32 ∷ l) e)
          (past_none line most (a + 1) (ap (λ (b : ℕ). eqb b 32) (stand-byte line (a + 1) l (stand_next line a 32 l e)) ∙ h))

  -- whether a word stands at a position depends on what stands there
  pub word_here : (word : List ℕ) (a : ℕ) (l : List ℕ) → drop a line ≡ l → is_word_at word line a ≡ is_word_at word l 0
  unfolding is_word_at
  word_here word a l e =
      λ i. same_bytes (take (length word) (e i)) word && (eqb (byte i) 32 || ends i)
    where
      byte : get_or line (a + length word) 0 ≡ get_or l (0 + length word) 0
      byte = sym (get_or-drop a line (length word) 0) ∙ ap (λ (k : List ℕ). get_or k (length word) 0) e ∙ ap (λ (n : ℕ). get_or l n 0) zero_more
        where
          zero_more : length word ≡ 0 + length word
          zero_more = omega arith

      ends : leb (length line) (a + length word) ≡ leb (length l) (0 + length word)
      ends = go (leb (length l) (0 + length word)) refl
        where
          long : length l ≡ length (drop a line)
          long = ap length (sym e)

          go : (b : Bool) → leb (length l) (0 + length word) ≡ b → leb (length line) (a + length word) ≡ b
          go true h = le-leb (length line) (a + length word) (omega (arith, leb-true (length l) (0 + length word) h, long, length-drop a line))
          go false h = lt-leb (length line) (a + length word) (omega (arith, leb-false (length l) (0 + length word) h, long, length-drop a line))

  -- a mark that stands there is passed
  pub mark_next : (b a : ℕ) (l : List ℕ) → drop a line ≡ b ∷ l → mark b line a ≡ placed (next line a)
  unfolding mark
  mark_next b a l e = rw (stand-byte line a (b ∷ l) e, eq-eqb b b refl)

  -- and a blank behind it
  pub mark-blank : (b a : ℕ) (l : List ℕ) → drop a line ≡ b ∷ 32 ∷ l → Sharp l → mark b line a ≡ placed (a + 1 + 1)
  unfolding next
  mark-blank b a l e h = mark_next b a (32 ∷ l) e ∙ ap placed (skip_blank (a + 1) l (stand_next line a b (32 ∷ l) e) h)

-- ════ words that do not fit

-- as many bytes, or others
pub lengths-apart : (xs ys : List ℕ) → (length xs ≡ length ys → ⊥) → same_bytes xs ys ≡ false
unfolding same_bytes
lengths-apart [] [] n = absurd (n refl)
lengths-apart [] (y ∷ ys) n = refl
lengths-apart (x ∷ xs) [] n = refl
lengths-apart (x ∷ xs) (y ∷ ys) n = ap (λ (b : Bool). eqb x y && b) (lengths-apart xs ys (λ e. n (ap suc e))) ∙ and_none (eqb x y)
  where
    and_none : (b : Bool) → (b && false) ≡ false
    and_none true = refl
    and_none false = refl

module _ (word line : List ℕ) (at : ℕ) where
  -- the line is too short
  pub word_short : length line - at < length word → false ≡ is_word_at word line at
  unfolding is_word_at
  word_short h = rw (lengths-apart (take (length word) (drop at line)) word (λ e. omega (arith, e, short (length word) (drop at line), length-drop at line)))
    where
      short : (n : ℕ) (l : List ℕ) → length (take n l) ≤ length l
      short zero l = omega arith
      short (suc n) [] = omega arith
      short (suc n) (x ∷ l) = omega (arith, short n l)

  -- a word that stands ends in the line
  pub word-within : 1 ≤ length word → is_word_at word line at ≡ true → at + length word ≤ length line
  word-within h z = go (leb (length word) (length line - at)) (leb→le (length word) (length line - at)) (nleb→lt (length word) (length line - at))
    where
      go : (b : Bool) → (T b → length word ≤ length line - at) → (T (not b) → length line - at < length word) → at + length word ≤ length line
      go true f g = let l = f tt in omega arith
      go false f g = absurd (true≢false (sym z ∙ sym (word_short (g tt))))
