-- How long texts are, whatever the names of letters: a term's at most 28 bytes, a form's at most 1392. Assumes nothing.
use mathlib.Core.Path.{◌≡◌, refl}
use mathlib.Core.Bool.{Bool, true, false, not, ◌&&◌, ◌||◌}
use mathlib.Core.List.{List, [], ◌∷◌, ◌++◌, map}
use Prim.Native.Nat.{ℕ, ◌+◌, ◌*◌, ◌≤◌}
use native.Mathlib.Omega.{arith}
use lib.Dec.{T, eqb}
use lib.IntN.{ℤ, nat_abs}
use lib.ListN.{length, length-append}
use Rattle.specification.specs.Results.{when◌then◌else◌}
use Rattle.specification.specs.Lists.{joined}
use Rattle.specification.specs.Terms.{Term, Form, term_in_shape, vector_letters_of, scalar_letters_of}
use Rattle.specification.specs.Printing.{decimal, print_factor, print_part, is_nothing, print_size, print_star, print_term, print_terms, print_form, line_bytes}
use Rattle.theory.specs.Elements.{All, all_T}
use Rattle.theory.specs.Shape.Terms.{OneToThree, term-opens}
use Rattle.theory.specs.Shape.Forms.{FormInShape}
use Rattle.symbols.specs.Text.{print_factors, print_line, other_letters}
use Rattle.symbols.proofs.Decimals.{decimal_short}
use Rattle.symbols.proofs.Pieces.{size-by-letters, star_by-letters, first_short, later_short}

-- ════ the pieces of a term

-- the size of a term's coefficient, if it is not left out
abbrev pub size_text : Term → List ℕ
size_text t = print_size t.coef (other_letters t)

size_short : (k : ℤ) (others : List ℕ) → length (print_size k others) ≤ 10
unfolding print_size
size_short k others = go (eqb (nat_abs k) 1 && not (is_nothing others))
  where
    go : (b : Bool) → length (when b then [] else decimal (nat_abs k)) ≤ 10
    go true = omega arith
    go false = decimal_short (nat_abs k)

module _ (names : List ℕ) where
  -- the star between its scalar and its vector part, if there is one
  abbrev pub star_text : Term → List ℕ
  star_text t = print_star (size_text t ++ print_factors names t) t.part

  -- five bytes for two vector letters, one for a scalar letter
  factors_short : (fs : List (List ℕ)) → All OneToThree fs → 2 * length (joined (map (print_factor names) fs)) ≤ 5 * vector_letters_of fs + 2 * scalar_letters_of fs
  unfolding joined print_factor vector_letters_of scalar_letters_of
  factors_short [] h = omega arith
  factors_short ([] ∷ fs) h = absurd (omega (arith, h.0.0))
  factors_short ((a ∷ []) ∷ fs) h = omega (arith, factors_short fs h.1)
  factors_short ((a ∷ b ∷ []) ∷ fs) h = omega (arith, factors_short fs h.1)
  factors_short ((a ∷ b ∷ c ∷ []) ∷ fs) h = omega (arith, factors_short fs h.1)
  factors_short ((a ∷ b ∷ c ∷ d ∷ f) ∷ fs) h = absurd (omega (arith, h.0.1))

  -- and for two letters of a vector part
  part_short : (p : List ℕ) → length p ≤ 2 → 2 * length (print_part names p) ≤ 5 * length p
  unfolding print_part
  part_short [] h = omega arith
  part_short (a ∷ []) h = omega arith
  part_short (a ∷ b ∷ []) h = omega arith
  part_short (a ∷ b ∷ c ∷ p) h = absurd (omega arith)

  -- a star is one byte at most
  pub star_short : (t : Term) → length (star_text t) ≤ 1
  unfolding print_star
  star_short t = go (is_nothing (size_text t ++ print_factors names t) || is_nothing t.part)
    where
      go : (b : Bool) → length {A = ℕ} (when b then [] else 42 ∷ []) ≤ 1
      go true = omega arith
      go false = omega arith

  -- the pieces of a term in shape, with room for a star
  pub pieces_short : (t : Term) → T (term_in_shape t) → length (size_text t) + length (print_factors names t) + 1 + length (print_part names t.part) ≤ 28
  unfolding print_factors
  pieces_short t h =
      let f = (term-opens t h).fits in
      omega (arith, size_short t.coef (other_letters t), factors_short t.factors f.lengths, part_short t.part f.part, f.vectors, f.scalars)

-- ════ terms and forms

module _ (names : List ℕ) where
  -- the text of a term from its pieces
  pub term_is : (t : Term) → print_term names t ≡ size_text t ++ print_factors names t ++ star_text names t ++ print_part names t.part
  unfolding print_term
  term_is t = rw (← size-by-letters names t, ← star_by-letters names _ t.part) (unfold print_factors in refl)

  -- without its sign a term in shape has at most 28 bytes
  pub term-text_short : (t : Term) → T (term_in_shape t) → length (print_term names t) ≤ 28
  term-text_short t h = rw (term_is t) (simp length-append (omega (arith, pieces_short names t h, star_short names t)))

  -- with their signs, at most 29 bytes each
  terms-text_short : (ts : List Term) → All (λ (t : Term). T (term_in_shape t)) ts → length (print_terms names ts) ≤ 29 * length ts
  unfolding print_terms
  terms-text_short [] h = omega arith
  terms-text_short (t ∷ ts) h = simp length-append (omega (arith, later_short t.coef, term-text_short t h.0, terms-text_short ts h.1))

  list-text_short : (ts : List Term) → All (λ (t : Term). T (term_in_shape t)) ts → length ts ≤ 48 → length (print_form names ts) ≤ 1392
  unfolding print_form
  list-text_short [] h g = omega arith
  list-text_short (t ∷ ts) h g = simp length-append (omega (arith, first_short t.coef, term-text_short t h.0, terms-text_short ts h.1))

  -- the text of a form in shape has at most 1392 bytes
  pub text_short : (f : Form) → FormInShape f → length (print_form names f.terms) ≤ 1392
  text_short f s = list-text_short f.terms (all_T term_in_shape f.terms s.terms) s.count

  -- and its line at most 1393
  pub line_short : (f : Form) → FormInShape f → length (print_line names f) ≤ line_bytes
  line_short f s = simp length-append (omega (arith, text_short f s))
