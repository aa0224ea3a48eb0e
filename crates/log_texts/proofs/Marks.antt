-- A byte that has to stand, and letters, one after the other. Assumes nothing.
use mathlib.Core.Path.{◌≡◌, refl, sym, ◌∙◌, ap}
use mathlib.Core.Bool.{Bool, true, false}
use mathlib.Core.List.{List, [], ◌∷◌, ◌++◌, append_assoc, append-nil}
use Prim.Native.Nat.{ℕ, suc, ◌+◌, ◌-◌, ◌≤◌, ◌<◌}
use native.Mathlib.Omega.{arith}
use native.Mathlib.Numerals.{add-one}
use borrow.Author.Tests.{eq-eqb, ne_eqb, lt-ltb, le-ltb}
use lib.ListN.{length, get_or, take, set, length-set}
use lib.Seq.{take-suc-set}
use Rattle.specification.specs.Text.{Placed, refused_at, placed, ◌>>=◌, is_letter, place_of, next}
use Rattle.specification.specs.LogTexts.{mark, read_letters_at}
use Rattle.std.specs.Prelude.{Ok, Err}
use Rattle.std.specs.Prelude as Std
use Rattle.refusal.specs.declared.Refusal.TheVariants.{Torn, AbsentLetter}
use Rattle.texts.specs.declared.Unread.{Unread}
use Rattle.log_texts.specs.declared.naming.LetterStep.{LetterStep}
use Rattle.log_texts.specs.Letters.{MarkRead, behind_letters, FormulaAt, LetterRead, LettersRead}
use Rattle.theory.specs.Text.Bounds.{there, next_within}

-- ════ a byte that has to stand

module _ (b : ℕ) (line : List ℕ) (at x : ℕ) (hx : x ≡ get_or line at 0) where
  -- another stands
  pub mark-other : (x ≡ b → ⊥) → MarkRead line (mark b line at) (Err (record { why = Torn; column = at }))
  unfolding mark
  mark-other n = record { is = rw (ne_eqb (get_or line at 0) b (λ e. n (hx ∙ e))); within = tt }

  -- it stands in the line
  pub mark-inside : 1 ≤ b → x ≡ b → at < length line
  mark-inside h e = there line at (omega (arith, hx, e))

  -- and the position behind it is known
  pub mark-there : (after : ℕ) → 1 ≤ b → x ≡ b → after ≡ next line at → MarkRead line (mark b line at) (Ok after)
  unfolding mark
  mark-there after h e q = record {
    is = rw (eq-eqb (get_or line at 0) b (sym hx ∙ e)) (ap placed (sym q));
    within = omega (arith, q, next_within line at (mark-inside h e));
  }

module _ (line : List ℕ) (at : ℕ) where
  -- no comma
  pub no_comma : (r : Unread) → MarkRead line (mark 44 line at) (Err r) → FormulaAt line at (Err r)
  unfolding behind_letters
  no_comma r h = record { is = λ rest. rw h.is; within = tt }

  module _ (a : ℕ) (ha : MarkRead line (mark 44 line at) (Ok a)) where
    -- no M
    pub no_m : (r : Unread) → MarkRead line (mark 77 line a) (Err r) → FormulaAt line at (Err r)
    unfolding behind_letters
    no_m r h = record { is = λ rest. rw (ha.is, h.is); within = tt }

    -- the equals sign decides
    pub formula_at : (b : ℕ) → MarkRead line (mark 77 line a) (Ok b) → (r : Std.Result ℕ Unread) → MarkRead line (mark 61 line b) r → FormulaAt line at r
    unfolding behind_letters
    formula_at b hb r h = record { is = λ rest. rw (ha.is, hb.is, h.is); within = h.within }

-- ════ one letter

module _ (names line : List ℕ) (at b : ℕ) (hb : b ≡ get_or line at 0) (t : Bool) (ht : t ≡ is_letter b) where
  letter : is_letter (get_or line at 0) ≡ t
  letter = ap is_letter (sym hb) ∙ sym ht

  -- no letter stands here
  pub letter_none : t ≡ false → LetterRead names line at (Err (record { why = Torn; column = at }))
  unfolding read_letters_at
  letter_none e = record { is = λ count. rw (letter ∙ e) }

  module _ (e : t ≡ true) (n : ℕ) (hn : n ≡ place_of names b) where
    place_is_lem : place_of names (get_or line at 0) ≡ n
    place_is_lem = ap (place_of names) (sym hb) ∙ sym hn

    -- it is not declared
    pub letter-unknown : length names ≤ n → LetterRead names line at (Err (record { why = AbsentLetter; column = at }))
    unfolding read_letters_at
    letter-unknown h = record { is = λ count. rw (letter ∙ e, le-ltb (place_of names (get_or line at 0)) (length names) (omega (arith, place_is_lem))) }

    -- it is
    pub letter_known : (after : ℕ) → n < length names → after ≡ next line at → LetterRead names line at (Ok (record { at = after; letter = n }))
    unfolding read_letters_at
    letter_known after h q = record {
      is = λ count. rw (letter ∙ e, lt-ltb (place_of names (get_or line at 0)) (length names) (omega (arith, place_is_lem)))
          (λ i. read_letters_at count names line (sym q i) >>= λ r. placed (place_is_lem i ∷ r.0, r.1));
    }

-- ════ letter after letter

-- what was read, behind letters
abbrev behind : (before : List ℕ) → Placed (List ℕ × ℕ) → Placed (List ℕ × ℕ)
behind before x = x >>= λ q. placed (before ++ q.0, q.1)

behind_none : (x : Placed (List ℕ × ℕ)) → x ≡ behind [] x
behind_none (refused_at n c) = refl
behind_none (placed q) = refl

behind_one : (x : Placed (List ℕ × ℕ)) (before : List ℕ) (l : ℕ) → behind before (x >>= λ q. placed (l ∷ q.0, q.1)) ≡ behind (before ++ l ∷ []) x
behind_one (refused_at n c) before l = refl
behind_one (placed q) before l = λ i. placed (sym (append_assoc before (l ∷ []) q.0) i, q.1)

-- what is left to be read behind the letters that stand is the whole
pub record LettersFrom (x : Placed (List ℕ × ℕ)) (names line : List ℕ) (n : ℕ) (letters : List ℕ) (next i : ℕ) : Type 0 where
  pub few : i ≤ n
  pub six : length letters ≡ 6
  pub same : x ≡ behind (take i letters) (read_letters_at (n - i) names line next)

-- at first
pub letters-begin : (names line : List ℕ) (at n : ℕ) (letters : List ℕ) → length letters ≡ 6
    → LettersFrom (read_letters_at n names line at) names line n letters at 0
letters-begin names line at n letters h = record {
  few = omega arith;
  six = h;
  same = behind_none (read_letters_at n names line at) ∙ ap (λ (k : ℕ). behind [] (read_letters_at k names line at)) (all n);
}
  where
    all : (n : ℕ) → n ≡ n - 0
    all n = omega arith

module _ (x : Placed (List ℕ × ℕ)) (names line : List ℕ) (n : ℕ) (letters : List ℕ) (next i : ℕ) (h : LettersFrom x names line n letters next i) where
  module _ (k : i < n) (few : n ≤ 6) where
    again : suc (n - (i + 1)) ≡ n - i
    again = omega arith

    -- a letter is refused
    pub letters_refused : (r : Unread) → LetterRead names line next (Err r) → LettersRead x n (Err r)
    letters_refused r t = record {
      is = h.same ∙ ap (behind (take i letters)) (ap (λ (j : ℕ). read_letters_at j names line next) (sym again) ∙ t.is (n - (i + 1)));
      six = tt;
    }

    -- one more
    pub letters_more : (q : LetterStep) → LetterRead names line next (Ok q) → LettersFrom x names line n (set letters i q.letter) q.at (i + 1)
    letters_more q t = record {
      few = omega arith;
      six = length-set letters i q.letter ∙ h.six;
      same = h.same
          ∙ ap (behind (take i letters)) (ap (λ (j : ℕ). read_letters_at j names line next) (sym again) ∙ t.is (n - (i + 1)))
          ∙ behind_one (read_letters_at (n - (i + 1)) names line q.at) (take i letters) q.letter
          ∙ ap (λ (l : List ℕ). behind l (read_letters_at (n - (i + 1)) names line q.at)) (sym stored);
    }
      where
        stored : take (i + 1) (set letters i q.letter) ≡ take i letters ++ q.letter ∷ []
        stored = ap (λ (j : ℕ). take j (set letters i q.letter)) (add-one i) ∙ take-suc-set letters i q.letter (omega (arith, h.six))

  -- all are read
  pub letters-done : n ≤ i → LettersRead x n (Ok (record { at = next; letters = letters }))
  unfolding read_letters_at
  letters-done l =
      let e : i ≡ n = omega (arith, h.few) in
      let z : n - i ≡ 0 = omega arith in
      record {
        is = h.same ∙ (λ j. behind (take (e j) letters) (read_letters_at (z j) names line next)) ∙ (λ j. placed (append-nil (take n letters) j, next));
        six = h.six;
      }
