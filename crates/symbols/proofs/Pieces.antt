-- The pieces of a term's text: a factor by its number, a vector part, whether anything is written, the coefficient's size, star and signs. Assumes nothing.
use mathlib.Core.Path.{◌≡◌, refl, ap, sym, ◌∙◌}
use mathlib.Core.Bool.{Bool, true, false, true≢false, not}
use mathlib.Core.List.{List, [], ◌∷◌, ◌++◌, map, append_assoc}
use Prim.Native.Nat.{ℕ, zero, suc, ◌+◌, ◌<◌, ◌≤◌}
use native.Mathlib.Omega.{arith}
use lib.IntN.{ℤ, pos, negsuc, nat_abs}
use lib.ListN.{length, take, set}
use borrow.Author.Tests.{ne_eqb}
use Rattle.specification.specs.Lists.{joined}
use Rattle.specification.specs.Terms as S
use Rattle.specification.specs.Printing.{name_of, decimal, print_factor, print_part, is_nothing, print_size, print_star, print_first_sign, print_sign}
use Rattle.integers.specs.Arithmetic.{is_negative}
use Rattle.terms.specs.declared.factors.Factor.{Factor}
use Rattle.terms.specs.declared.factors.Factor.TheVariants.{Scalar, Dot, Triple}
use Rattle.terms.specs.declared.types.Part.{Part}
use Rattle.terms.specs.declared.types.Part.TheVariants.{Nothing, Letter, Wedge}
use Rattle.terms.specs.declared.types.Term.{Term}
use Rattle.terms.specs.Numbers.{letters_of}
use Rattle.terms.specs.Abstraction.{factor_of, part_of, term_of}
use Rattle.record_writing.specs.Written.{Written}
use Rattle.record_writing.proofs.Writes.{written_none, written_store}
use Rattle.terms.proofs.Letters.{scalar_is, dot_is, triple_is, letters-long, nothing_is, letter_is, wedge_is}
use Rattle.symbols.specs.Printable.{Printed}
use Rattle.symbols.specs.Text.{print_factors, pair_text, triple_text, other_letters, is_left_out, StarWritten}

-- ════ factors

-- the text of a factor, and that its letters have names
pub record FactorText (names : List ℕ) (k : ℕ) (letters text : List ℕ) : Type 0 where
  pub is : print_factor names (letters_of k) ≡ text
  pub named : Printed names letters

module _ (names : List ℕ) (k : ℕ) (f : Factor) (e : factor_of f ≡ letters_of k) (n : Printed names (letters_of k)) where
  -- a scalar letter
  pub scalar-text : (x : ℕ) → f ≡ Scalar x → FactorText names k (x ∷ []) (name_of names x ∷ [])
  unfolding print_factor
  scalar-text x h = let q = scalar_is k f e x h in record { is = rw q; named = rw q at n }

  -- a dot
  pub dot-text : (x y : ℕ) → f ≡ Dot x y → FactorText names k (x ∷ y ∷ []) (pair_text names x 46 y)
  unfolding print_factor
  dot-text x y h = let q = dot_is k f e x y h in record { is = rw q; named = rw q at n }

  -- a triple
  pub triple_text_lem : (x y z : ℕ) → f ≡ Triple x y z → FactorText names k (x ∷ y ∷ z ∷ []) (triple_text names x y z)
  unfolding print_factor
  triple_text_lem x y z h = let q = triple_is k f e x y z h in record { is = rw q; named = rw q at n }

-- ════ vector parts

module _ (names : List ℕ) (p : Part) where
  -- no part
  pub nothing-text : p ≡ Nothing → print_part names (part_of p) ≡ []
  unfolding print_part
  nothing-text e = rw (nothing_is p e)

  -- a letter
  pub letter-text : (x : ℕ) → p ≡ Letter x → print_part names (part_of p) ≡ name_of names x ∷ []
  unfolding print_part
  letter-text x e = rw (letter_is p x e)

  -- a wedge
  pub wedge-text : (x y : ℕ) → p ≡ Wedge x y → print_part names (part_of p) ≡ pair_text names x 94 y
  unfolding print_part
  wedge-text x y e = rw (wedge_is p x y e)

  -- the letter has a name
  pub letter-named : (x : ℕ) → p ≡ Letter x → Printed names (part_of p) → x < length names
  letter-named x e n = (rw (letter_is p x e) at n).0

  -- the letters of a wedge have names
  pub wedge-named : (x y : ℕ) → p ≡ Wedge x y → Printed names (part_of p) → (x < length names) × (y < length names)
  wedge-named x y e n = let w : Printed names (x ∷ y ∷ []) = rw (wedge_is p x y e) at n in (w.0, w.1.0)

-- ════ as they are stored

-- a letter
pub letter-stored : (x a : ℕ) (xs : List ℕ) → a ≡ x → xs ≡ x ∷ [] → xs ≡ a ∷ []
letter-stored x a xs p e = e ∙ ap (λ (z : ℕ). z ∷ []) (sym p)

-- a dot or a wedge
pub pair-stored : (x mark y a b : ℕ) → a ≡ x → b ≡ y → 40 ∷ x ∷ mark ∷ y ∷ 41 ∷ [] ≡ 40 ∷ a ∷ mark ∷ b ∷ 41 ∷ []
pair-stored x mark y a b p q = rw (p, q)

-- a triple
pub triple-stored : (x y z a b c : ℕ) → a ≡ x → b ≡ y → c ≡ z → 40 ∷ x ∷ y ∷ z ∷ 41 ∷ [] ≡ 40 ∷ a ∷ b ∷ c ∷ 41 ∷ []
triple-stored x y z a b c p q r = rw (p, q, r)

-- ════ whether anything is written

-- a factor has letters
factor-there : (k : ℕ) (l : List ℕ) → is_nothing (letters_of k ++ l) ≡ false
unfolding is_nothing
factor-there k l = go (letters_of k) (letters-long k).0
  where
    go : (f : List ℕ) → 1 ≤ length f → is_nothing (f ++ l) ≡ false
    go [] h = absurd (omega arith)
    go (x ∷ f) h = refl

module _ (t : Term) where
  -- a factor is
  pub factors-there : 0 < t.factor_count → t.factor_count ≤ length t.factors → false ≡ is_nothing (other_letters (term_of t))
  unfolding other_letters term_of joined
  factors-there h g = go t.factor_count t.factors h g
    where
      go : (n : ℕ) (f : List ℕ) → 0 < n → n ≤ length f → false ≡ is_nothing (joined (map letters_of (take n f)) ++ part_of t.part)
      go zero f h g = absurd (omega arith)
      go (suc n) [] h g = absurd (omega arith)
      go (suc n) (k ∷ f) h g = let rest = joined (map letters_of (take n f)) in rw append_assoc (sym (factor-there k (rest ++ part_of t.part)))

  -- without factors, the letters are those of the vector part
  letters-part : t.factor_count ≤ 0 → other_letters (term_of t) ≡ part_of t.part
  unfolding other_letters term_of joined
  letters-part h = let e : t.factor_count ≡ 0 = omega arith in rw e

  -- then there is nothing
  pub nothing_there : t.factor_count ≤ 0 → t.part ≡ Nothing → true ≡ is_nothing (other_letters (term_of t))
  unfolding is_nothing
  nothing_there h e = rw (letters-part h, nothing_is t.part e)

  -- or a letter
  pub letter-there : (x : ℕ) → t.factor_count ≤ 0 → t.part ≡ Letter x → false ≡ is_nothing (other_letters (term_of t))
  unfolding is_nothing
  letter-there x h e = rw (letters-part h, letter_is t.part x e)

  -- or a wedge
  pub wedge-there : (x y : ℕ) → t.factor_count ≤ 0 → t.part ≡ Wedge x y → false ≡ is_nothing (other_letters (term_of t))
  unfolding is_nothing
  wedge-there x y h e = rw (letters-part h, wedge_is t.part x y e)

-- ════ whatever the names, letters tell whether anything is written

module _ (names : List ℕ) where
  -- of a vector part
  part-nothing : (p : List ℕ) → is_nothing (print_part names p) ≡ is_nothing p
  unfolding is_nothing print_part
  part-nothing [] = refl
  part-nothing (a ∷ []) = refl
  part-nothing (a ∷ b ∷ p) = refl

  -- of factors and a vector part
  others-nothing : (fs : List (List ℕ)) (p : List ℕ) → is_nothing (joined (map (print_factor names) fs) ++ print_part names p) ≡ is_nothing (joined fs ++ p)
  unfolding is_nothing joined print_factor
  others-nothing [] p = part-nothing p
  others-nothing ([] ∷ fs) p = others-nothing fs p
  others-nothing ((a ∷ []) ∷ fs) p = refl
  others-nothing ((a ∷ b ∷ []) ∷ fs) p = refl
  others-nothing ((a ∷ b ∷ c ∷ f) ∷ fs) p = refl

  -- the coefficient's size by the text beside it
  pub size-by-letters : (t : S.Term) → print_size t.coef (print_factors names t ++ print_part names t.part) ≡ print_size t.coef (other_letters t)
  unfolding print_size print_factors other_letters
  size-by-letters t = rw (others-nothing t.factors t.part)

  -- the star by the text behind it
  pub star_by-letters : (before part : List ℕ) → print_star before (print_part names part) ≡ print_star before part
  unfolding print_star
  star_by-letters before part = rw (part-nothing part)

-- ════ the coefficient's size

-- one that is not 1 is not left out
pub other-size : (n : ℕ) (others : List ℕ) → (n ≡ 1 → ⊥) → false ≡ is_left_out n others
unfolding is_left_out
other-size n others h = rw (ne_eqb n 1 h)

-- 1 is, where anything else is written
pub size_one : (n : ℕ) (others : List ℕ) (bare : Bool) → n ≡ 1 → bare ≡ is_nothing others → not bare ≡ is_left_out n others
unfolding is_left_out
size_one n others bare h e = rw (h, e)

module _ (k : ℤ) (n : ℕ) (others : List ℕ) (left : Bool) (sized : n ≡ nat_abs k) (tested : left ≡ is_left_out n others) where
  -- it is
  pub size_left-out : left ≡ true → print_size k others ≡ []
  unfolding print_size is_left_out
  size_left-out e = rw (← sized, ← tested, e)

  -- it is not
  pub size-decimal : left ≡ false → print_size k others ≡ decimal n
  unfolding print_size is_left_out
  size-decimal e = rw (← sized, ← tested, e)

-- ════ the star

-- where nothing stands before, there is none
pub star-none_before : (l : List ℕ) (from at : ℕ) (part : List ℕ) → at ≤ from → StarWritten l l from at at part
unfolding print_star is_nothing
star-none_before l from at part h = record { is = go }
  where
    go : (text : List ℕ) → at ≡ from + length text → Written l l at at (print_star text part)
    go [] e = written_none l at [] refl
    go (x ∷ text) e = absurd (omega arith)

-- nor where no part follows
pub star_none_behind : (l : List ℕ) (from at : ℕ) (part : List ℕ) → part ≡ [] → StarWritten l l from at at part
unfolding print_star is_nothing
star_none_behind l from at part h = record { is = go }
  where
    go : (text : List ℕ) → at ≡ from + length text → Written l l at at (print_star text part)
    go [] e = written_none l at [] refl
    go (x ∷ text) e = rw h (written_none l at [] refl)

-- between a text and a part there is one
pub star-stored : (l : List ℕ) (from at x : ℕ) (part xs : List ℕ) → from < at → at < length l → part ≡ x ∷ xs
    → StarWritten l (set l at 42) from at (at + 1) part
unfolding print_star is_nothing
star-stored l from at x part xs h g e = record { is = go }
  where
    go : (text : List ℕ) → at ≡ from + length text → Written l (set l at 42) at (at + 1) (print_star text part)
    go [] q = absurd (omega arith)
    go (y ∷ text) q = rw e (written_store l at 42 g)

-- ════ the signs

-- where a byte is written there is room for it
pub stored-room : (at room x : ℕ) (xs : List ℕ) → xs ≡ x ∷ [] → at < room → at + length xs ≤ room
stored-room at room x xs e h = rw e (omega arith)

module _ (k : ℤ) (negative : Bool) (is_tested : negative ≡ is_negative k) where
  -- a minus in front of the first term
  pub first_minus : negative ≡ true → print_first_sign k ≡ 45 ∷ []
  unfolding is_negative print_first_sign
  first_minus e = go k (sym is_tested ∙ e)
    where
      go : (k : ℤ) → is_negative k ≡ true → print_first_sign k ≡ 45 ∷ []
      go (pos n) e = absurd (true≢false (sym e))
      go (negsuc n) e = refl

  -- or nothing
  pub first_plus : negative ≡ false → print_first_sign k ≡ []
  unfolding is_negative print_first_sign
  first_plus e = go k (sym is_tested ∙ e)
    where
      go : (k : ℤ) → is_negative k ≡ false → print_first_sign k ≡ []
      go (pos n) e = refl
      go (negsuc n) e = absurd (true≢false e)

  -- a minus in front of a later one
  pub later-minus : negative ≡ true → print_sign k ≡ 45 ∷ []
  unfolding is_negative print_sign
  later-minus e = go k (sym is_tested ∙ e)
    where
      go : (k : ℤ) → is_negative k ≡ true → print_sign k ≡ 45 ∷ []
      go (pos n) e = absurd (true≢false (sym e))
      go (negsuc n) e = refl

  -- or a plus
  pub later-plus : negative ≡ false → print_sign k ≡ 43 ∷ []
  unfolding is_negative print_sign
  later-plus e = go k (sym is_tested ∙ e)
    where
      go : (k : ℤ) → is_negative k ≡ false → print_sign k ≡ 43 ∷ []
      go (pos n) e = refl
      go (negsuc n) e = absurd (true≢false e)

-- a sign is one byte at most
pub first_short : (k : ℤ) → length (print_first_sign k) ≤ 1
unfolding print_first_sign
first_short (pos n) = omega arith
first_short (negsuc n) = omega arith

-- and one
pub later_short : (k : ℤ) → length (print_sign k) ≡ 1
unfolding print_sign
later_short (pos n) = refl
later_short (negsuc n) = refl
