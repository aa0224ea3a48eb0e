-- Bytes at a position: what it means that the bytes from one position to another spell a list, put together and taken apart. Assumes nothing.
use Rattle.std.specs.Prelude.{◌≡◌, refl, List, [], ◌∷◌, ◌++◌, ℕ, zero, suc, ◌+◌, ◌≤◌, ◌<◌, length, get_or, take, drop}
use Rattle.std.proofs.Common.{ap, sym, ◌∙◌, append_assoc, append-nil, arith, add-one, length-append, length-take, length-drop, take-append-drop, drop-cons, drop-drop, take_at}
use Rattle.std.proofs.Math.Seq.{drop-append_seam, drop-length}
use Rattle.theory.specs.Elements.{All}

-- the bytes of s from a to b are xs
pub record Spells (s : List ℕ) (a b : ℕ) (xs : List ℕ) : Type 0 where
  pub ends : b ≡ a + length xs
  pub fits : b ≤ length s
  pub bytes : drop a s ≡ xs ++ drop b s

module _ (s : List ℕ) where
  pub spells_none : (a : ℕ) → a ≤ length s → Spells s a a []
  spells_none a h = record { ends = omega arith; fits = h; bytes = refl }

  pub spells_one : (a : ℕ) → a < length s → Spells s a (a + 1) (get_or s a 0 ∷ [])
  spells_one a h = record { ends = omega arith; fits = omega arith; bytes = rw (add-one, drop-cons s a 0) }

  pub spells-take : (a n : ℕ) → a + n ≤ length s → Spells s a (a + n) (take n (drop a s))
  spells-take a n h = record {
    ends = simp (length-take, length-drop) (omega arith);
    fits = h;
    bytes = rw (← drop-drop) (sym (take-append-drop n (drop a s)));
  }

  pub spells-join : (a b c : ℕ) (xs ys : List ℕ) → Spells s a b xs → Spells s b c ys → Spells s a c (xs ++ ys)
  spells-join a b c xs ys p q = record {
    ends = simp length-append (omega arith);
    fits = q.fits;
    bytes = p.bytes ∙ ap (λ (l : List ℕ). xs ++ l) q.bytes ∙ sym (append_assoc xs ys (drop c s));
  }

  pub spells-cons : (a b : ℕ) (xs : List ℕ) → a < length s → Spells s (a + 1) b xs → Spells s a b (get_or s a 0 ∷ xs)
  spells-cons a b xs h p = spells-join a (a + 1) b (get_or s a 0 ∷ []) xs (spells_one a h) p

  -- what stands behind the first part
  pub spells-rest : (a c : ℕ) (xs ys : List ℕ) → Spells s a c (xs ++ ys) → Spells s (a + length xs) c ys
  spells-rest a c xs ys p = record {
    ends = omega (arith, simp length-append at p.ends);
    fits = p.fits;
    bytes = sym (drop-drop (length xs) a s) ∙ ap (drop (length xs)) (p.bytes ∙ append_assoc xs ys (drop c s)) ∙ drop-append_seam xs (ys ++ drop c s);
  }

  -- the first part
  pub spells_first : (a c : ℕ) (xs ys : List ℕ) → Spells s a c (xs ++ ys) → Spells s a (a + length xs) xs
  spells_first a c xs ys p = record {
    ends = refl;
    fits = omega (arith, simp length-append at p.ends, p.fits);
    bytes = p.bytes ∙ append_assoc xs ys (drop c s) ∙ ap (λ (l : List ℕ). xs ++ l) (sym (spells-rest a c xs ys p).bytes);
  }

  -- the bytes taken are those spelled
  pub spelled-take : (a b : ℕ) (xs : List ℕ) → Spells s a b xs → take (length xs) (drop a s) ≡ xs
  spelled-take a b xs p = rw p.bytes (take_at xs (drop b s) (length xs) refl)

  -- there is a first byte
  pub spelled-there : (a b x : ℕ) (xs : List ℕ) → Spells s a b (x ∷ xs) → a < length s
  spelled-there a b x xs p = omega (arith, p.ends, p.fits)

  -- it is the first one spelled
  pub spelled-byte : (a b x : ℕ) (xs : List ℕ) → Spells s a b (x ∷ xs) → get_or s a 0 ≡ x
  spelled-byte a b x xs p = ap (λ (l : List ℕ). get_or l 0 0) (sym (drop-cons s a 0 (spelled-there a b x xs p)) ∙ p.bytes)

  -- and the others stand behind it
  pub spelled-tail : (a b x : ℕ) (xs : List ℕ) → Spells s a b (x ∷ xs) → Spells s (a + 1) b xs
  spelled-tail a b x xs p = spells-rest a b (x ∷ []) xs p

  -- all bytes spell themselves
  pub spells_all : Spells s 0 (length s) s
  spells_all = record { ends = omega arith; fits = omega arith; bytes = sym (ap (λ (l : List ℕ). s ++ l) (drop-length s) ∙ append-nil s) }

  -- and nothing else
  pub spells-whole : (xs : List ℕ) → Spells s 0 (length s) xs → xs ≡ s
  spells-whole xs p = sym (p.bytes ∙ ap (λ (l : List ℕ). xs ++ l) (drop-length s) ∙ append-nil xs)

-- every element is a byte
abbrev pub Bytes : List ℕ → Type 0
Bytes s = All (λ (b : ℕ). b < 256) s

-- each is below 256
pub byte_small : (s : List ℕ) → Bytes s → (i : ℕ) → get_or s i 0 < 256
byte_small [] h i = omega arith
byte_small (x ∷ s) h zero = h.0
byte_small (x ∷ s) h (suc i) = byte_small s h.1 i
