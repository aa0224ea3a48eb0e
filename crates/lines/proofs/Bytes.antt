-- Words in a line, byte by byte. Assumes nothing.
use mathlib.Core.Path.{◌≡◌, refl, sym, ◌∙◌, ap}
use mathlib.Core.Bool.{Bool, true, false, ◌&&◌, ◌||◌}
use mathlib.Core.List.{List, [], ◌∷◌}
use Prim.Native.Nat.{ℕ, zero, suc, ◌+◌, ◌-◌, ◌≤◌, ◌<◌}
use native.Mathlib.Omega.{arith}
use native.Mathlib.Numerals.{add-one}
use borrow.Author.Tests.{eq-eqb, ne_eqb, le-leb, lt-leb}
use lib.Dec.{eqb, leb}
use lib.ListN.{length, get_or, take, drop, length-drop, drop_of_length-le}
use lib.Seq.{take_all, drop-cons, drop-drop, get_or-drop, get_or-take, length-take-le}
use Rattle.specification.specs.Lines.{same_bytes, is_word_at}
use Rattle.lines.specs.Words.{stands_at}

-- two of one length
pub same_whole : (a b : List ℕ) → length a ≡ length b → stands_at b a 0 ≡ same_bytes a b
unfolding stands_at
same_whole a b e = ap (λ (l : List ℕ). same_bytes l b) (take_all (length b) a (omega (arith, e)))

module _ (word line : List ℕ) (at : ℕ) where
  -- the bytes that have to be the word
  abbrev part : List ℕ
  part = take (length word) (drop at line)

  module _ (room : at + length word ≤ length line) (i : ℕ) (h : same_bytes part word ≡ same_bytes (drop i part) (drop i word)) (k : i < length word) where
    long : length part ≡ length word
    long = length-take-le (length word) (drop at line) (omega (arith, length-drop at line))

    byte : get_or part i 0 ≡ get_or line (at + i) 0
    byte = get_or-take (length word) (drop at line) i 0 k ∙ get_or-drop at line i 0

    -- another byte
    pub byte-differs : (get_or line (at + i) 0 ≡ get_or word i 0 → ⊥) → false ≡ stands_at word line at
    unfolding stands_at same_bytes
    byte-differs n =
        let l : i < length part = omega (arith, long) in
        sym (h ∙ rw (drop-cons part i 0 l, drop-cons word i 0 k, ne_eqb (get_or part i 0) (get_or word i 0) (λ e. n (sym byte ∙ e))))

    -- the same byte
    pub byte_same : get_or line (at + i) 0 ≡ get_or word i 0 → same_bytes part word ≡ same_bytes (drop (i + 1) part) (drop (i + 1) word)
    unfolding same_bytes
    byte_same e =
        let l : i < length part = omega (arith, long) in
        h ∙ rw (drop-cons part i 0 l, drop-cons word i 0 k, eq-eqb (get_or part i 0) (get_or word i 0) (byte ∙ e), add-one)

  -- all are the same
  pub bytes_same : at + length word ≤ length line → (i : ℕ) → same_bytes part word ≡ same_bytes (drop i part) (drop i word) → length word ≤ i → true ≡ stands_at word line at
  unfolding stands_at same_bytes
  bytes_same room i h k =
      let long : length part ≡ length word = length-take-le (length word) (drop at line) (omega (arith, length-drop at line)) in
      let l : length part ≤ i = omega (arith, long) in
      sym (h ∙ rw (drop_of_length-le part l, drop_of_length-le word k))

  module _ (t : Bool) (q : t ≡ stands_at word line at) where
    stands : same_bytes part word ≡ t
    unfolding stands_at
    stands = sym q

    -- other bytes
    pub word-other : t ≡ false → false ≡ is_word_at word line at
    unfolding is_word_at
    word-other e = rw (stands ∙ e)

    -- nothing behind it
    pub word_last : t ≡ true → length line ≤ at + length word → true ≡ is_word_at word line at
    unfolding is_word_at
    word_last e l = rw (stands ∙ e, le-leb (length line) (at + length word) l) (sym (or-true (eqb (get_or line (at + length word) 0) 32)))
      where
        or-true : (b : Bool) → (b || true) ≡ true
        or-true true = refl
        or-true false = refl

    -- a blank behind it, or another byte
    pub word-followed : t ≡ true → at + length word < length line → eqb (get_or line (at + length word) 0) 32 ≡ is_word_at word line at
    unfolding is_word_at
    word-followed e l = rw (stands ∙ e, lt-leb (length line) (at + length word) l) (sym (or-false (eqb (get_or line (at + length word) 0) 32)))
      where
        or-false : (b : Bool) → (b || false) ≡ b
        or-false true = refl
        or-false false = refl
