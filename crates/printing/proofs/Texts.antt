-- The texts of factors, terms and forms from those of their parts. Assumes nothing.
use mathlib.Core.Path.{◌≡◌, refl, ap, sym, ◌∙◌}
use mathlib.Core.List.{List, [], ◌∷◌, ◌++◌, map, append-nil}
use Prim.Native.Nat.{ℕ, ◌+◌, ◌<◌, ◌≤◌}
use native.Mathlib.Omega.{arith}
use lib.Dec.{T}
use lib.ListN.{length, get_or, take, drop, set, length-append}
use Rattle.specification.specs.Results.{refused}
use Rattle.specification.specs.Lists.{joined}
use Rattle.specification.specs.Terms.{term_in_shape}
use Rattle.specification.specs.Terms as S
use Rattle.specification.specs.Records.{write_into}
use Rattle.specification.specs.Printing.{decimal, print_factor, print_part, print_term, print_first_sign, print_sign, print_terms, print_form}
use Rattle.specification.specs.Printing.{line_bytes, print_result, TextWritten}
use Rattle.theory.specs.Elements.{All}
use Rattle.integers.specs.Over.{over}
use Rattle.terms.specs.declared.types.Term.{Term}
use Rattle.terms.specs.declared.types.Form.{Form}
use Rattle.terms.specs.Numbers.{letters_of}
use Rattle.terms.specs.Abstraction.{term_of, form_of}
use Rattle.terms.specs.Valid.{TermValid}
use Rattle.terms.proofs.Arrays.{all-at, rest_at, nothing_left_lem}
use Rattle.record_writing.specs.Written.{Written}
use Rattle.record_writing.proofs.Writes.{written_store, written_then, written_length}
use Rattle.forms.proofs.Forms.{term_at_lem}
use Rattle.symbols.specs.Printable.{Printed, TermPrinted, TermPrintable, Printable}
use Rattle.symbols.specs.Text.{print_factors, print_line, StarWritten}
use Rattle.symbols.proofs.Decimals.{decimal_short}
use Rattle.symbols.proofs.Pieces.{first_short, later_short}
use Rattle.printing.proofs.Lengths.{size_text, star_text, term_is, term-text_short, pieces_short, star_short, text_short}
use Rattle.symbols.proofs.Progress.{written_as_lem}

-- ════ factors

-- the text of the factors from one on
abbrev pub factors_from : (names f : List ℕ) → ℕ → ℕ → List ℕ
factors_from names f n i = joined (map (print_factor names) (map letters_of (drop i (take n f))))

module _ (names f : List ℕ) (n i : ℕ) (fl : n ≤ length f) where
  -- one more
  pub factor_next : i < n → factors_from names f n i ≡ print_factor names (letters_of (get_or f i 0)) ++ factors_from names f n (i + 1)
  unfolding joined
  factor_next h = rw (rest_at f n i 0 fl h)

  -- room for those from one on is room for it and the others
  pub factor-room : i < n → (k room : ℕ) → k + length (factors_from names f n i) ≤ room
      → (k + length (print_factor names (letters_of (get_or f i 0))) ≤ room)
      × (k + length (print_factor names (letters_of (get_or f i 0))) + length (factors_from names f n (i + 1)) ≤ room)
  factor-room h k room r = let e = simp length-append at (ap length (factor_next h)) in (omega arith, omega arith)

  -- none is left
  pub factors-end : n ≤ i → factors_from names f n i ≡ []
  unfolding joined
  factors-end h = rw (nothing_left_lem f n i fl h)

-- the letters of each factor have names
pub factor-named : (names : List ℕ) (t : Term) (i : ℕ) → TermPrinted names (term_of t) → t.factor_count ≤ length t.factors → i < t.factor_count
    → Printed names (letters_of (get_or t.factors i 0))
unfolding term_of
factor-named names t i p fl h =
    all-at (λ (k : ℕ). Printed names (letters_of k)) t.factors t.factor_count i 0 fl h (named (take t.factor_count t.factors) p.factors)
  where
    named : (ks : List ℕ) → All (Printed names) (map letters_of ks) → All (λ (k : ℕ). Printed names (letters_of k)) ks
    named [] h = tt
    named (k ∷ ks) h = (h.0, named ks h.1)

-- ════ a term

module _ (names : List ℕ) (t : S.Term) (l m₁ m₂ m₃ : List ℕ) (at p₁ p₂ p₃ : ℕ) (in_shape : T (term_in_shape t)) (room : at + 28 ≤ length l)
    (size : Written l m₁ at p₁ (size_text t)) (factors : Written m₁ m₂ p₁ p₂ (print_factors names t)) (star : StarWritten m₂ m₃ at p₂ p₃ t.part) where
  star_written : Written m₂ m₃ p₂ p₃ (star_text names t)
  star_written = star.is (size_text t ++ print_factors names t) (omega (arith, size.ends, factors.ends, length-append (size_text t) (print_factors names t)))

  -- behind the star there is room for the vector part
  pub part_room : p₃ + length (print_part names t.part) ≤ length l
  part_room = omega (arith, pieces_short names t in_shape, star_short names t, size.ends, factors.ends, star_written.ends)

  -- the pieces written one after the other
  pub term_written : (m₄ : List ℕ) (p₄ : ℕ) → Written m₃ m₄ p₃ p₄ (print_part names t.part) → Written l m₄ at p₄ (print_term names t)
  term_written m₄ p₄ part =
      let a : at ≤ length l = omega arith in
      written_as_lem l m₄ at p₄ _ _ (term_is names t)
      (written_then l m₃ m₄ at p₃ p₄ _ _ a (written_then l m₂ m₃ at p₂ p₃ _ _ a (written_then l m₁ m₂ at p₁ p₂ _ _ a size factors) star_written) part)

-- each term of a form that can be printed can be printed
pub term-printable : (names : List ℕ) (f : Form) (i : ℕ) (d : Term) → Printable names f → f.count ≤ length f.terms → i < f.count
    → TermPrintable names (get_or f.terms i d)
term-printable names f i d p fl h = record {
  valid = term_at_lem f i d p.valid fl h;
  letters = all-at (λ (t : Term). TermPrinted names (term_of t)) f.terms f.count i d fl h p.letters;
}

-- ════ a form of one term

module _ (names : List ℕ) (t : Term) where
  single_is : print_form names (term_of t ∷ []) ≡ print_first_sign t.coef ++ print_term names (term_of t)
  unfolding print_form print_terms term_of
  single_is = append-nil (print_first_sign t.coef ++ print_term names (term_of t))

  -- it has at most 29 bytes
  pub single_short : TermValid t → length (print_form names (term_of t ∷ [])) ≤ 29
  single_short v = rw single_is (simp length-append (omega (arith, first_short t.coef, term-text_short names (term_of t) v.in_shape)))

  -- the sign, then the term
  pub single_written : (l m n : List ℕ) (at k next : ℕ) → at ≤ length l → Written l m at k (print_first_sign t.coef)
      → Written m n k next (print_term names (term_of t)) → Written l n at next (print_form names (term_of t ∷ []))
  single_written l m n at k next h p q = written_as_lem l n at next _ _ single_is (written_then l m n at k next _ _ h p q)

-- ════ the terms of a form

module _ (names : List ℕ) where
  -- the text of the terms from one on
  abbrev pub terms_from : List Term → ℕ → ℕ → List ℕ
  terms_from l n i = print_terms names (map term_of (drop i (take n l)))

  -- a term with its sign
  abbrev pub signed_term : Term → List ℕ
  signed_term t = print_sign t.coef ++ print_term names (term_of t)

  -- it has at most 29 bytes
  pub signed_short : (t : Term) → TermValid t → length (signed_term t) ≤ 29
  signed_short t v = simp length-append (omega (arith, later_short t.coef, term-text_short names (term_of t) v.in_shape))

  module _ (l : List Term) (n i : ℕ) (d : Term) (fl : n ≤ length l) where
    -- one more
    pub term_next : i < n → terms_from l n i ≡ signed_term (get_or l i d) ++ terms_from l n (i + 1)
    unfolding print_terms term_of
    term_next h = rw (rest_at l n i d fl h)

    -- none is left
    pub terms-end : n ≤ i → terms_from l n i ≡ []
    unfolding print_terms
    terms-end h = rw (nothing_left_lem l n i fl h)

-- ════ the text in front of the bytes lent

front_is : (l xs : List ℕ) → over l 0 xs ≡ write_into xs l
unfolding over write_into
front_is l xs = let e : 0 + length xs ≡ length xs = omega arith in rw e

-- a text written from the start on
pub text_written : (l m : List ℕ) (next : ℕ) (xs ys : List ℕ) → ys ≡ xs → Written l m 0 next xs → TextWritten l m next ys
text_written l m next xs ys e w = rw e (record { ends = omega (arith, w.ends); bytes = w.bytes ∙ front_is l xs })

-- and back
pub written_text : (l m : List ℕ) (next : ℕ) (xs : List ℕ) → TextWritten l m next xs → Written l m 0 next xs
written_text l m next xs w = record { ends = omega (arith, w.ends); bytes = w.bytes ∙ sym (front_is l xs) }

module _ (names : List ℕ) (f : Form) (l : List ℕ) where
  -- no terms: 0
  pub empty_written : f.count ≡ 0 → 0 < length l → TextWritten l (set l 0 48) 1 (print_form names (form_of f).terms)
  unfolding form_of print_form
  empty_written e h = text_written l (set l 0 48) 1 (48 ∷ []) _ (rw e) (written_store l 0 48 h)

  module _ (d : Term) (fl : f.count ≤ length f.terms) (some : 0 < f.count) where
    form_is : print_form names (form_of f).terms ≡ print_form names (term_of (get_or f.terms 0 d) ∷ []) ++ terms_from names f.terms f.count 1
    unfolding form_of print_form print_terms term_of
    form_is = rw (rest_at f.terms f.count 0 d fl some, append-nil)

    -- the first term, then the others
    pub form_written : (m₁ m₂ : List ℕ) (p₁ p₂ : ℕ) → Written l m₁ 0 p₁ (print_form names (term_of (get_or f.terms 0 d) ∷ []))
        → Written m₁ m₂ p₁ p₂ (terms_from names f.terms f.count 1) → TextWritten l m₂ p₂ (print_form names (form_of f).terms)
    form_written m₁ m₂ p₁ p₂ first others = text_written l m₂ p₂ _ _ form_is (written_then l m₁ m₂ 0 p₁ p₂ _ _ (omega arith) first others)

-- ════ lines

-- a newline behind the text of a form
pub line_written : (names : List ℕ) (f : Form) (l m : List ℕ) (next : ℕ) → Printable names f → line_bytes ≤ length l
    → TextWritten l m next (print_form names (form_of f).terms) → (next < length m) × TextWritten l (set m next 10) (next + 1) (print_line names (form_of f))
line_written names f l m next p h w =
    let v = written_text l m next _ w in
    let s = text_short names (form_of f) p.valid.in_shape in
    let k = written_length l m 0 next _ (omega arith) v in
    let i : next < length m = omega (arith, w.ends) in
    let q = written_then l m (set m next 10) 0 next (next + 1) _ (10 ∷ []) (omega arith) v (written_store m next 10 i) in
    (i, text_written l (set m next 10) (next + 1) _ _ refl q)

-- a newline behind R and a number
pub refusal_written : (n : ℕ) (l m : List ℕ) (next : ℕ) → 12 ≤ length l → Written (set l 0 82) m 1 next (decimal n)
    → (next < length m) × TextWritten l (set m next 10) (next + 1) (print_result (refused n))
unfolding print_result
refusal_written n l m next h w =
    let v = written_then l (set l 0 82) m 0 1 next (82 ∷ []) (decimal n) (omega arith) (written_store l 0 82 (omega arith)) w in
    let k = written_length l m 0 next _ (simp length-append (omega (arith, decimal_short n))) v in
    let i : next < length m = omega (arith, w.ends, decimal_short n) in
    let q = written_then l m (set m next 10) 0 next (next + 1) _ (10 ∷ []) (omega arith) v (written_store m next 10 i) in
    (i, text_written l (set m next 10) (next + 1) _ _ refl q)
