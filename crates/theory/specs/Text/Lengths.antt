-- A printed form fits a line: at most 57 bytes a term, 2737 in all. Assumes nothing.
use Rattle.std.specs.Prelude.{◌≡◌, refl, Bool, true, false, not, ◌&&◌, ◌||◌, ℕ, zero, suc, ◌+◌, ◌*◌, ◌/◌, ◌%◌, ◌≤◌, ℤ, pos, negsuc, nat_abs, length, T, eqb, ltb}
use Rattle.std.proofs.Common.{ap, eqb→eq}
use mathlib.Core.List.{List, [], ◌∷◌, ◌++◌, map}
use native.Mathlib.Omega.{arith}
use Rattle.std.proofs.Math.ListN.{length-append}
use Rattle.specification.specs.Results.{when◌then◌else◌}
use Rattle.specification.specs.Lists.{all, joined}
use Rattle.specification.specs.Terms.{Term, Form, vector_letters_of, scalar_letters_of, term_in_shape}
use Rattle.specification.specs.Printing.{digits, decimal, is_nothing, print_size, print_star, print_first_sign, print_sign, print_factor, print_part, print_term, print_terms, print_form, name_of}
use Rattle.theory.specs.Elements.{All, all_T}
use Rattle.theory.specs.Shape.Terms.{OneToThree, term-opens}
use Rattle.theory.specs.Shape.Forms.{FormInShape}

digits_short : (most n : ℕ) → length (digits most n) ≤ most
unfolding digits
digits_short zero n = omega arith
digits_short (suc most) n = go (ltb n 10) (digits_short most (n / 10))
  where
    go : (b : Bool) → length (digits most (n / 10)) ≤ most → length (when b then (48 + n) ∷ [] else digits most (n / 10) ++ (48 + n % 10) ∷ []) ≤ suc most
    go true h = omega arith
    go false h = simp length-append (omega arith)

size_short : (k : ℤ) (others : List ℕ) → length (print_size k others) ≤ 10
unfolding print_size decimal
size_short k others = go (eqb (nat_abs k) 1 && not (is_nothing others))
  where
    go : (b : Bool) → length (when b then [] else digits 10 (nat_abs k)) ≤ 10
    go true = omega arith
    go false = digits_short 10 (nat_abs k)

star_short : (before part : List ℕ) → length (print_star before part) ≤ 1
unfolding print_star
star_short before part = go (is_nothing before || is_nothing part)
  where
    go : (b : Bool) → length {A = ℕ} (when b then [] else 42 ∷ []) ≤ 1
    go true = omega arith
    go false = omega arith

-- each factor has a names
few_factors_lem : (fs : List (List ℕ)) → All OneToThree fs → length fs ≤ vector_letters_of fs + scalar_letters_of fs
unfolding vector_letters_of scalar_letters_of
few_factors_lem [] h = omega arith
few_factors_lem (f ∷ fs) h = go (eqb (length f) 1) (few_factors_lem fs h.1)
  where
    go : (b : Bool) → length fs ≤ vector_letters_of fs + scalar_letters_of fs
        → suc (length fs) ≤ (when b then 0 else length f) + vector_letters_of fs + ((when b then 1 else 0) + scalar_letters_of fs)
    go true ih = omega arith
    go false ih = omega (arith, h.0.0)

module _ (names : List ℕ) where
  factor_short : (f : List ℕ) → length (print_factor names f) ≤ 5
  unfolding print_factor
  factor_short [] = omega arith
  factor_short (a ∷ []) = omega arith
  factor_short (a ∷ b ∷ []) = omega arith
  factor_short (a ∷ b ∷ c ∷ f) = omega arith

  part_short : (p : List ℕ) → length (print_part names p) ≤ 5
  unfolding print_part
  part_short [] = omega arith
  part_short (a ∷ []) = omega arith
  part_short (a ∷ b ∷ p) = omega arith

  factors_short : (fs : List (List ℕ)) → length (joined (map (print_factor names) fs)) ≤ 5 * length fs
  unfolding joined
  factors_short [] = omega arith
  factors_short (f ∷ fs) = omega (arith, length-append (print_factor names f) (joined (map (print_factor names) fs)), factor_short f, factors_short fs)

  -- a term in shape has at most 56 bytes
  term_short : (t : Term) → T (term_in_shape t) → length (print_term names t) ≤ 56
  unfolding print_term
  term_short t h =
      let s = (term-opens t h).fits in
      let n = few_factors_lem t.factors s.lengths in
      let scalars = joined (map (print_factor names) t.factors) in
      let part = print_part names t.part in
      let size = print_size t.coef (scalars ++ part) in
      let star = print_star (size ++ scalars) part in
      omega (
        arith,
        s.vectors,
        s.scalars,
        factors_short t.factors,
        part_short t.part,
        size_short t.coef (scalars ++ part),
        star_short (size ++ scalars) part,
        length-append ((size ++ scalars) ++ star) part,
        length-append (size ++ scalars) star,
        length-append size scalars,
      )

  sign_short : (k : ℤ) → length (print_sign k) ≤ 1
  unfolding print_sign
  sign_short (pos n) = omega arith
  sign_short (negsuc n) = omega arith

  first_short : (k : ℤ) → length (print_first_sign k) ≤ 1
  unfolding print_first_sign
  first_short (pos n) = omega arith
  first_short (negsuc n) = omega arith

  terms_short : (ts : List Term) → All (λ (t : Term). T (term_in_shape t)) ts → length (print_terms names ts) ≤ 57 * length ts
  unfolding print_terms
  terms_short [] h = omega arith
  terms_short (t ∷ ts) h =
      omega (
        arith,
        length-append (print_sign t.coef ++ print_term names t) (print_terms names ts),
        length-append (print_sign t.coef) (print_term names t),
        sign_short t.coef,
        term_short t h.0,
        terms_short ts h.1,
      )

  form_short_by : (ts : List Term) → All (λ (t : Term). T (term_in_shape t)) ts → length (print_form names ts) ≤ 57 * length ts + 1
  unfolding print_form
  form_short_by [] h = omega arith
  form_short_by (t ∷ ts) h =
      omega (
        arith,
        length-append (print_first_sign t.coef ++ print_term names t) (print_terms names ts),
        length-append (print_first_sign t.coef) (print_term names t),
        first_short t.coef,
        term_short t h.0,
        terms_short ts h.1,
      )

-- a printed form in shape fits a line
pub form_text_short : (names : List ℕ) (f : Form) → FormInShape f → length (print_form names f.terms) ≤ 4096
form_text_short names f s = omega (arith, s.count, form_short_by names f.terms (all_T term_in_shape f.terms s.terms))
