-- What is printed has no newline in it, and a text that stands before a newline is the first line. Assumes nothing.
use Rattle.std.specs.Prelude.{◌≡◌, refl, Bool, true, false, not, ◌&&◌, ◌||◌, ℕ, zero, suc, ℤ, pos, negsuc, nat_abs, length, get_or, T, eqb}
use Rattle.std.proofs.Common.{ap, arith}
use mathlib.Core.List.{List, [], ◌∷◌, ◌++◌, map}
use Rattle.std.proofs.Math.Dec.{eqb-suc-zero}
use Rattle.specification.specs.Results.{when◌then◌else◌}
use Rattle.specification.specs.Lists.{all, joined}
use Rattle.specification.specs.Terms.{Term}
use Rattle.specification.specs.Printing.{decimal, is_nothing, print_size, print_star, print_first_sign, print_sign, name_of}
use Rattle.specification.specs.Printing.{print_factor, print_part, print_term, print_terms, print_form, print_letters}
use Rattle.specification.specs.Text.{is_digit, good_names}
use Rattle.specification.specs.Lines.{first_line, behind_line, is_empty_line, at_end, past_empty, to_line}
use Rattle.theory.specs.Elements.{All, all_append, all_implies, at_all}
use Rattle.theory.specs.Text.Positions.{first}
use Rattle.theory.specs.Text.Names.{name-letter}
use Rattle.theory.specs.Text.Numbers.{decimal-digits}
use Rattle.theory.specs.Text.Pieces.{letter-other, digit-other}

-- ════ lines

-- no newline is in it
abbrev pub OneLine : List ℕ → Type 0
OneLine xs = All (λ (b : ℕ). eqb b 10 ≡ false) xs

-- it is empty, or begins with a byte that is no newline and no blank
pub record Begins (l : List ℕ) : Type 0 where
  pub no_newline : eqb (first l) 10 ≡ false
  pub no_blank : eqb (first l) 32 ≡ false

-- two texts of one line joined
pub line-append : (xs ys : List ℕ) → OneLine xs → OneLine ys → OneLine (xs ++ ys)
line-append xs ys h k = all_append (λ (b : ℕ). eqb b 10 ≡ false) xs ys h k

-- the bytes before the newline
pub first_line_lem : (xs l : List ℕ) → OneLine xs → first_line (xs ++ 10 ∷ l) ≡ xs
unfolding first_line
first_line_lem [] l h = refl
first_line_lem (x ∷ xs) l h = rw h.0 (ap (λ (k : List ℕ). x ∷ k) (first_line_lem xs l h.1))

-- those behind it
pub behind_line_lem : (xs l : List ℕ) → OneLine xs → behind_line (xs ++ 10 ∷ l) ≡ l
unfolding behind_line
behind_line_lem [] l h = refl
behind_line_lem (x ∷ xs) l h = rw h.0 (behind_line_lem xs l h.1)

-- no line is passed where a line begins that is not empty, or where the text ends
pub line_stays : (k : ℕ) (l : List ℕ) → Begins l → to_line (k, l) ≡ (k, l)
unfolding to_line past_empty at_end is_empty_line first_line all
line_stays k [] h = refl
line_stays k (b ∷ l) h = rw (eqb-suc-zero (length l), h.no_newline, h.no_blank)

-- ════ what is printed

-- a number
pub decimal-line : (n : ℕ) → OneLine (decimal n)
decimal-line n =
    all_implies (λ (x : ℕ). T (is_digit x)) (λ (x : ℕ). eqb x 10 ≡ false) (λ x d. digit-other x 10 d (omega arith)) (decimal n) (decimal-digits n)

-- the size of a coefficient
size_line : (k : ℤ) (others : List ℕ) → OneLine (print_size k others)
unfolding print_size
size_line k others = go (eqb (nat_abs k) 1 && not (is_nothing others))
  where
    go : (b : Bool) → OneLine (when b then [] else decimal (nat_abs k))
    go true = tt
    go false = decimal-line (nat_abs k)

-- a `*`
star-line : (before part : List ℕ) → OneLine (print_star before part)
unfolding print_star
star-line before part = go (is_nothing before || is_nothing part)
  where
    go : (b : Bool) → OneLine (when b then [] else 42 ∷ [])
    go true = tt
    go false = (refl, tt)

-- a sign between terms
sign_line : (k : ℤ) → OneLine (print_sign k)
unfolding print_sign
sign_line (pos n) = (refl, tt)
sign_line (negsuc n) = (refl, tt)

-- a sign in front
first_sign_line : (k : ℤ) → OneLine (print_first_sign k)
unfolding print_first_sign
first_sign_line (pos n) = tt
first_sign_line (negsuc n) = (refl, tt)

module _ (names : List ℕ) (named : OneLine names) where
  -- a name is no newline, and neither is what stands for a name that is not there
  name-line : (n : ℕ) → eqb (name_of names n) 10 ≡ false
  name-line n = go names n named
    where
      go : (l : List ℕ) (n : ℕ) → OneLine l → eqb (get_or l n 0) 10 ≡ false
      go [] n h = refl
      go (x ∷ l) zero h = h.0
      go (x ∷ l) (suc n) h = go l n h.1

  -- a factor
  factor-line : (f : List ℕ) → OneLine (print_factor names f)
  unfolding print_factor
  factor-line [] = tt
  factor-line (a ∷ []) = (name-line a, tt)
  factor-line (a ∷ b ∷ []) = (refl, (name-line a, (refl, (name-line b, (refl, tt)))))
  factor-line (a ∷ b ∷ c ∷ f) = (refl, (name-line a, (name-line b, (name-line c, (refl, tt)))))

  -- a vector part
  part-line : (p : List ℕ) → OneLine (print_part names p)
  unfolding print_part
  part-line [] = tt
  part-line (a ∷ []) = (name-line a, tt)
  part-line (a ∷ b ∷ p) = (refl, (name-line a, (refl, (name-line b, (refl, tt)))))

  -- factors
  factors-line : (fs : List (List ℕ)) → OneLine (joined (map (print_factor names) fs))
  unfolding joined
  factors-line [] = tt
  factors-line (f ∷ fs) = line-append (print_factor names f) (joined (map (print_factor names) fs)) (factor-line f) (factors-line fs)

  -- a term
  term-line : (t : Term) → OneLine (print_term names t)
  unfolding print_term
  term-line t =
      let scalars = joined (map (print_factor names) t.factors) in
      let part = print_part names t.part in
      let size = print_size t.coef (scalars ++ part) in
      let star = print_star (size ++ scalars) part in
      line-append ((size ++ scalars) ++ star) part
      (line-append (size ++ scalars) star (line-append size scalars (size_line t.coef (scalars ++ part)) (factors-line t.factors))
      (star-line (size ++ scalars) part))
      (part-line t.part)

  -- terms behind the first
  terms-line : (ts : List Term) → OneLine (print_terms names ts)
  unfolding print_terms
  terms-line [] = tt
  terms-line (t ∷ ts) =
      line-append (print_sign t.coef ++ print_term names t) (print_terms names ts)
      (line-append (print_sign t.coef) (print_term names t) (sign_line t.coef) (term-line t)) (terms-line ts)

  -- a form
  pub form_line_lem : (ts : List Term) → OneLine (print_form names ts)
  unfolding print_form
  form_line_lem [] = (refl, tt)
  form_line_lem (t ∷ ts) =
      line-append (print_first_sign t.coef ++ print_term names t) (print_terms names ts)
      (line-append (print_first_sign t.coef) (print_term names t) (first_sign_line t.coef) (term-line t)) (terms-line ts)

  -- letters of a step
  pub letters-line : (ls : List ℕ) → OneLine (print_letters names ls)
  unfolding print_letters
  letters-line [] = tt
  letters-line (n ∷ ls) = (refl, (name-line n, letters-line ls))

-- good names
pub good_line : (names table : List ℕ) → T (good_names names table) → OneLine names
good_line names table good =
    at_all (λ (b : ℕ). eqb b 10 ≡ false) names 0 (λ n h. letter-other (get_or names n 0) 10 (name-letter names table good n h) (omega arith))
