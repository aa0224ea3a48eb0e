-- A printed form, read again, gives the form; so two different forms of one kind never print alike. Assumes nothing.
use Rattle.std.specs.Prelude.{◌≡◌, Bool, true, false, ℕ, zero, suc, ◌+◌, ◌<◌, ◌≤◌, pos, nat_abs, length, get_or, drop, T, eqb}
use Rattle.std.proofs.Math.Path.{refl}
use Rattle.std.proofs.Common.{sym, ◌∙◌, ap, subst, arith}
use mathlib.Core.List.{List, [], ◌∷◌, ◌++◌, flat_map}
use Rattle.specification.specs.Results.{Result, given}
use Rattle.specification.specs.Lists.{all, joined}
use Rattle.specification.specs.Letters.{scalar, vector, kind_of}
use Rattle.specification.specs.Terms.{Term, Form, is_zero, keep, gather_into, gather, within, coef_within, term_in_shape}
use Rattle.specification.specs.Expressions.{Expr, Constant, Times}
use Rattle.specification.specs.Printing.{digits, decimal, is_nothing, print_star, name_of, print_part, print_form}
use Rattle.specification.specs.Reduction.{pairs_of, product_terms, product, times_forms, letter_form, constant_form, work_with, work}
use Rattle.specification.specs.Text.{Placed, placed, plain, at_column, worked, past_blanks, skip, is_letter, is_digit, is_factor, is_sign, good_names, read_digits, read_number, read_atom, read_lead, read_second, read_pair, read_wedge, read_dot, more_factors, read_product, more_terms, read_first, read_sum, read_nested, whole_text, read_text, text_form}
use Rattle.theory.specs.Elements.{All, all_implies, both_all, all_T}
use Rattle.theory.specs.Order.{monomial}
use Rattle.theory.specs.Shape.Terms.{OneToThree, term-opens, in_limit}
use Rattle.theory.specs.Shape.Forms.{FormInShape}
use Rattle.theory.specs.Shape.Letters.{Known, known_is, FactorKnown, MonomialKnown, AllKnown}
use Rattle.theory.specs.Text.Columns.{placed_same}
use Rattle.theory.specs.Text.Names.{names_count}
use Rattle.theory.specs.Text.Pieces.{sum-alone}
use Rattle.theory.specs.Text.Products.{letter_expr, part_expr, with_part, chain, factors_text, Named, NamedFactor, NamedTerm, sized_read}
use Rattle.theory.specs.Text.Sums.{form_expr, Readable, ends-nothing, ReadsTo, whole_read, form_text_read}
use Rattle.theory.specs.Text.Forms.{form_of, form-works}
use Rattle.theory.specs.Text.Lengths.{form_text_short}

-- a text that is read to a tree which is worked to a form
pub read_works : (names table s : List ℕ) (e : Expr) (f : Form) → ReadsTo names table s e → work e ≡ given f → text_form names table s ≡ placed f
unfolding text_form worked at_column
read_works names table s e f r w = rw (r.is, r.plain_is, w) refl

module _ (names table : List ℕ) (good : T (good_names names table)) where
  -- letters of the table have names
  pub known_named : (kind : ℕ) (l : List ℕ) → All (Known table kind) l → Named names l
  known_named kind l h = all_implies (Known table kind) (λ (n : ℕ). n < length names) (λ n k. let w = (known_is table kind n k).0 in omega (arith, names_count names table good)) l h

  factors-named : (fs : List (List ℕ)) → All OneToThree fs → All (FactorKnown table) fs → All (NamedFactor names) fs
  factors-named [] h k = tt
  factors-named (f ∷ fs) h k = ((h.0.0, known_named _ f k.0), factors-named fs h.1 k.1)

  pub term-readable : (t : Term) → T (term_in_shape t) × MonomialKnown table (monomial t) → Readable names t
  term-readable t h = record {
    named = record { factors = factors-named t.factors (term-opens t h.0).fits.lengths h.1.factors; part = known_named vector t.part h.1.part };
    small = omega (arith, in_limit t h.0);
  }

  -- every form in shape with letters in the table that is not empty, printed with names and read again, gives the form
  pub read_back_lem : (kind : ℕ) (t : Term) (ts : List Term) → FormInShape (form_of kind (t ∷ ts)) → AllKnown table (t ∷ ts)
      → text_form names table (print_form names (t ∷ ts)) ≡ placed (form_of kind (t ∷ ts))
  read_back_lem kind t ts s k =
      read_works names table (print_form names (t ∷ ts)) (form_expr names table (t ∷ ts)) (form_of kind (t ∷ ts))
      (form_text_read names table good t ts
      (all_implies (λ (u : Term). T (term_in_shape u) × MonomialKnown table (monomial u)) (Readable names) term-readable (t ∷ ts)
      (both_all (λ (u : Term). T (term_in_shape u)) (λ (u : Term). MonomialKnown table (monomial u)) (t ∷ ts) (all_T term_in_shape (t ∷ ts) s.terms) k))
      (form_text_short names (form_of kind (t ∷ ts)) s))
      (form-works names table kind t ts s k)

-- ════ the empty forms

-- `0` is the empty form of scalars, whatever the names
pub read_nothing : (names table : List ℕ) → text_form names table (print_form names []) ≡ placed (form_of scalar [])
unfolding print_form text_form read_text whole_text skip past_blanks read_sum read_first read_product read_dot read_wedge read_pair read_second read_lead read_number read_digits more_factors more_terms is_factor is_sign is_letter is_digit worked at_column plain work_with constant_form coef_within keep is_zero
read_nothing names table = refl

module _ (names table : List ℕ) (good : T (good_names names table)) where
  -- the empty form of vectors as a text: `0*` and the name of a vector
  abbrev pub no_vector : ℕ → List ℕ
  no_vector n = 48 ∷ 42 ∷ name_of names n ∷ []

  no_vector_read : (n : ℕ) → n < length names → ReadsTo names table (no_vector n) (Times (Constant (pos 0)) (letter_expr table n))
  unfolding decimal digits factors_text joined print_star is_nothing print_part chain with_part part_expr
  no_vector_read n h =
      let s = no_vector n in
      let bracket = read_nested names table s 16 in
      whole_read names table s (Times (Constant (pos 0)) (letter_expr table n)) (omega arith) refl
      (sum-alone names table s bracket 0 (Times (Constant (pos 0)) (letter_expr table n)) []
      (sized_read names table s good 15 0 0 [] (n ∷ []) [] (omega arith) tt (h, tt) ends-nothing.product refl)
      refl refl ends-nothing.no_sign)

  no_vector-works : (n : ℕ) → Known table vector n → work (Times (Constant (pos 0)) (letter_expr table n)) ≡ given (form_of vector [])
  unfolding work_with constant_form coef_within keep is_zero letter_form times_forms product product_terms pairs_of flat_map all gather gather_into within
  no_vector-works n h = rw (known_is table vector n h).1

  -- it is read to the empty form of vectors
  pub read_no-vector : (n : ℕ) → Known table vector n → text_form names table (no_vector n) ≡ placed (form_of vector [])
  read_no-vector n h =
      let l = (known_is table vector n h).0 in
      read_works names table (no_vector n) (Times (Constant (pos 0)) (letter_expr table n)) (form_of vector [])
      (no_vector_read n (omega (arith, names_count names table good))) (no_vector-works n h)

  -- ════ no two forms print alike

  -- a form in shape with letters in the table
  pub record Writable (f : Form) : Type 0 where
    pub in_shape : FormInShape f
    pub known : AllKnown table f.terms

  -- forms of one kind that print alike are the same
  pub prints-apart : (f g : Form) → Writable f → Writable g → f.kind ≡ g.kind → print_form names f.terms ≡ print_form names g.terms → f ≡ g
  prints-apart f g a b kind e = go f.terms g.terms refl refl
    where
      filled : (h : Form) (t : Term) (ts : List Term) → Writable h → h.terms ≡ t ∷ ts → text_form names table (print_form names (t ∷ ts)) ≡ placed (form_of h.kind (t ∷ ts))
      filled h t ts w q =
          read_back_lem names table good h.kind t ts (subst (λ (l : List Term). FormInShape (form_of h.kind l)) q w.in_shape) (subst (AllKnown table) q w.known)

      alike : (l m : List Term) → f.terms ≡ l → g.terms ≡ m → print_form names l ≡ print_form names m
      alike l m p q = ap (print_form names) (sym p) ∙ e ∙ ap (print_form names) q

      both : (l : List Term) → f.terms ≡ l → g.terms ≡ l → f ≡ g
      both l p q = λ i. record { kind = kind i; terms = (p ∙ sym q) i }

      never : (t : Term) (ts : List Term) → placed (form_of scalar []) ≡ placed (form_of f.kind (t ∷ ts)) → ⊥
      never t ts q = let z : ◌≡◌ {A = List Term} [] (t ∷ ts) = ap (λ (h : Form). h.terms) (placed_same q) in let y = ap length z in omega (arith, y)

      go : (l m : List Term) → f.terms ≡ l → g.terms ≡ m → f ≡ g
      go [] [] p q = both [] p q
      go [] (u ∷ us) p q =
          absurd (never u us (sym (read_nothing names table) ∙ ap (text_form names table) (alike [] (u ∷ us) p q) ∙ filled g u us b q ∙ ap (λ (k : ℕ). placed (form_of k (u ∷ us))) (sym kind)))
      go (t ∷ ts) [] p q =
          absurd (never t ts (sym (read_nothing names table) ∙ ap (text_form names table) (sym (alike (t ∷ ts) [] p q)) ∙ filled f t ts a p))
      go (t ∷ ts) (u ∷ us) p q =
          let z = placed_same (sym (filled f t ts a p) ∙ ap (text_form names table) (alike (t ∷ ts) (u ∷ us) p q) ∙ filled g u us b q) in
          both (u ∷ us) (p ∙ ap (λ (h : Form). h.terms) z) q
