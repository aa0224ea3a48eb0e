-- Names that fit a table: each a letter, none found behind itself. Assumes nothing.
use mathlib.Core.Path.{◌≡◌, refl, sym, ◌∙◌, ap}
use mathlib.Core.Bool.{Bool, true, false, not, ◌&&◌}
use mathlib.Core.List.{List, [], ◌∷◌}
use Prim.Native.Nat.{ℕ, zero, suc, ◌+◌, ◌-◌, ◌≤◌, ◌<◌}
use native.Mathlib.Omega.{arith}
use native.Mathlib.Numerals.{add-one}
use lib.ListN.{length, get_or, take, drop, length-drop, drop_of_length-le}
use lib.Dec.{eqb, ltb, leb-suc-suc}
use lib.Seq.{drop-cons, take_all}
use borrow.Author.Tests.{eq-eqb, ne_eqb, eqb-true, eqb-false, lt-ltb, le-ltb}
use Rattle.specification.specs.Lists.{all}
use Rattle.specification.specs.Text.{is_letter, distinct, good_names, place_of}
use Rattle.specification.specs.Results.{when◌then◌else◌}
use Rattle.theory.specs.Tests.{and-false}

here : (names : List ℕ) (i : ℕ) → i < length names → drop i names ≡ get_or names i 0 ∷ drop (i + 1) names
here names i h = drop-cons names i 0 h ∙ rw add-one

-- ════ each a letter

module _ (names : List ℕ) (i : ℕ) where
  -- one is none
  pub letter-missing : i < length names → is_letter (get_or names i 0) ≡ false → all is_letter (drop i names) ≡ false
  unfolding all
  letter-missing h e = rw (here names i h, e)

  -- one is
  pub letter-there : i < length names → is_letter (get_or names i 0) ≡ true → all is_letter (drop i names) ≡ all is_letter (drop (i + 1) names)
  unfolding all
  letter-there h e = rw (here names i h, e)

  -- behind the last
  pub letters-end : length names ≤ i → all is_letter (drop i names) ≡ true
  unfolding all
  letters-end h = rw (drop_of_length-le names h)

-- ════ none twice

turned : (m n : ℕ) → eqb m n ≡ eqb n m
turned m n = go (eqb m n) refl
  where
    go : (b : Bool) → eqb m n ≡ b → b ≡ eqb n m
    go true e = sym (eq-eqb n m (sym (eqb-true m n e)))
    go false e = sym (ne_eqb n m (λ p. eqb-false m n e (sym p)))

-- none is this one: it is not found
not_found : (n : ℕ) (names : List ℕ) → all (λ (m : ℕ). not (eqb n m)) names ≡ not (ltb (place_of names n) (length names))
unfolding all place_of
not_found n [] = refl
not_found n (m ∷ names) = rw (turned n m) (go (eqb m n) (not_found n names))
  where
    go : (b : Bool) → all (λ (k : ℕ). not (eqb n k)) names ≡ not (ltb (place_of names n) (length names))
        → (not b && all (λ (k : ℕ). not (eqb n k)) names) ≡ not (ltb (when b then 0 else suc (place_of names n)) (suc (length names)))
    go true e = ap not (sym (lt-ltb 0 (suc (length names)) (omega arith)))
    go false e = e ∙ ap not (sym (leb-suc-suc (suc (place_of names n)) (length names)))

-- what is behind a name, as it is lent
abbrev behind : List ℕ → ℕ → List ℕ
behind names i = take (length names - (i + 1)) (drop (i + 1) names)

module _ (names : List ℕ) (i : ℕ) where
  behind_is : behind names i ≡ drop (i + 1) names
  behind_is = take_all (length names - (i + 1)) (drop (i + 1) names) (simp length-drop (omega arith))

  module _ (p : ℕ) (h : i < length names) (e : p ≡ place_of (behind names i) (get_or names i 0)) where
    first : distinct (drop i names) ≡ (not (ltb p (length (behind names i))) && distinct (drop (i + 1) names))
    unfolding distinct
    first = rw (here names i h, not_found (get_or names i 0) (drop (i + 1) names), e, behind_is)

    -- one is found behind itself
    pub found-behind : p < length (behind names i) → distinct (drop i names) ≡ false
    found-behind l = first ∙ rw (lt-ltb p (length (behind names i)) l)

    -- it is not
    pub none_behind : length (behind names i) ≤ p → distinct (drop i names) ≡ distinct (drop (i + 1) names)
    none_behind l = first ∙ rw (le-ltb p (length (behind names i)) l)

  -- behind the last
  pub distinct-end : length names ≤ i → distinct (drop i names) ≡ true
  unfolding distinct
  distinct-end h = rw (drop_of_length-le names h)

-- ════ they fit

module _ (names table : List ℕ) where
  -- another number of them
  pub another-number : (length names ≡ length table → ⊥) → false ≡ good_names names table
  unfolding good_names
  another-number h = rw (ne_eqb (length names) (length table) h)

  module _ (same : length names ≡ length table) (letters : Bool) (l : letters ≡ all is_letter names) where
    -- one is no letter
    pub not-letters : letters ≡ false → false ≡ good_names names table
    unfolding good_names
    not-letters e = rw (sym l ∙ e, and-false (eqb (length names) (length table)))

    -- that none stands twice decides
    pub if_distinct : (r : Bool) → letters ≡ true → r ≡ distinct names → r ≡ good_names names table
    unfolding good_names
    if_distinct r e d = rw (eq-eqb (length names) (length table) same, sym l ∙ e, d)
