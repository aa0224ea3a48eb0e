-- Document 01's printer is printing with the names a, b, c, …; so what it prints is a formula, and reads back. Assumes nothing.
use Rattle.std.specs.Prelude.{◌≡◌, ◌&&◌, ℕ, ◌<◌, ◌≤◌, length, take, T, eqb}
use Rattle.std.proofs.Math.Path.{refl}
use Rattle.std.proofs.Common.{sym, ◌∙◌, ap, arith, get_or-take, length-take-le}
use mathlib.Core.List.{List, [], ◌∷◌, ◌++◌, map}
use Rattle.specification.specs.Lists.{each, all, joined}
use Rattle.specification.specs.Letters.{vector}
use Rattle.specification.specs.Terms.{Term, Form}
use Rattle.specification.specs.Printing.{name_of, alphabet, print_factor, print_part, print_term, print_terms, print_form, print_size, print_star, print_first_sign, print_sign}
use Rattle.specification.specs.Text.{placed, is_letter, distinct, good_names, text_form}
use Rattle.theory.specs.Tests.{and_split, and_both, eqb_T}
use Rattle.theory.specs.Elements.{All, all_implies, each_T}
use Rattle.theory.specs.Order.{monomial}
use Rattle.theory.specs.Shape.Forms.{FormInShape}
use Rattle.theory.specs.Shape.Letters.{Known, known_is, FactorKnown, MonomialKnown, AllKnown}
use Rattle.theory.specs.Text.Forms.{form_of}
use Rattle.theory.specs.Text.RoundTrip.{read_back_lem}

-- ════ names that agree print alike

module _ (names others : List ℕ) where
  -- letters that have one name by both
  abbrev Agree : List ℕ → Type 0
  Agree l = All (λ (n : ℕ). name_of names n ≡ name_of others n) l

  -- every letter of a term has
  pub record TermsAgree (t : Term) : Type 0 where
    pub factors : All Agree t.factors
    pub part : Agree t.part

  factor-agrees : (l : List ℕ) → Agree l → print_factor names l ≡ print_factor others l
  unfolding print_factor
  factor-agrees [] h = refl
  factor-agrees (a ∷ []) h = λ i. h.0 i ∷ []
  factor-agrees (a ∷ b ∷ []) h = λ i. 40 ∷ h.0 i ∷ 46 ∷ h.1.0 i ∷ 41 ∷ []
  factor-agrees (a ∷ b ∷ c ∷ l) h = λ i. 40 ∷ h.0 i ∷ h.1.0 i ∷ h.1.1.0 i ∷ 41 ∷ []

  part-agrees : (l : List ℕ) → Agree l → print_part names l ≡ print_part others l
  unfolding print_part
  part-agrees [] h = refl
  part-agrees (a ∷ []) h = λ i. h.0 i ∷ []
  part-agrees (a ∷ b ∷ l) h = λ i. 40 ∷ h.0 i ∷ 94 ∷ h.1.0 i ∷ 41 ∷ []

  factors-agree : (fs : List (List ℕ)) → All Agree fs → joined (map (print_factor names) fs) ≡ joined (map (print_factor others) fs)
  unfolding joined
  factors-agree [] h = refl
  factors-agree (l ∷ fs) h = λ i. factor-agrees l h.0 i ++ factors-agree fs h.1 i

  term-agrees : (t : Term) → TermsAgree t → print_term names t ≡ print_term others t
  unfolding print_term
  term-agrees t h =
      λ i. let scalars = factors-agree t.factors h.factors i in
      let part = part-agrees t.part h.part i in
      let size = print_size t.coef (scalars ++ part) in
      size ++ scalars ++ print_star (size ++ scalars) part ++ part

  terms-agree : (ts : List Term) → All TermsAgree ts → print_terms names ts ≡ print_terms others ts
  unfolding print_terms
  terms-agree [] h = refl
  terms-agree (t ∷ ts) h = λ i. print_sign t.coef ++ term-agrees t h.0 i ++ terms-agree ts h.1 i

  -- names that agree on the letters of the terms print them alike
  pub form-agrees : (ts : List Term) → All TermsAgree ts → print_form names ts ≡ print_form others ts
  unfolding print_form
  form-agrees [] h = refl
  form-agrees (t ∷ ts) h = λ i. print_first_sign t.coef ++ term-agrees t h.0 i ++ terms-agree ts h.1 i

-- ════ document 01's names

-- as many of a to x as the table has letters
abbrev pub plain_names : (table : List ℕ) → List ℕ
plain_names table = take (length table) alphabet

starts-hold : T (each 25 (λ (n : ℕ). all is_letter (take n alphabet) && distinct (take n alphabet)))
unfolding each all is_letter distinct
starts-hold = tt

module _ (table : List ℕ) (short : length table ≤ 24) where
  -- they are good names
  pub plain_good : T (good_names (plain_names table) table)
  unfolding good_names
  plain_good =
      let names = plain_names table in
      let w = and_split (all is_letter names) (distinct names)
      (each_T (λ (n : ℕ). all is_letter (take n alphabet) && distinct (take n alphabet)) 25 starts-hold (length table) (omega arith)) in
      and_both (eqb (length names) (length table) && all is_letter names) (distinct names)
      (and_both (eqb (length names) (length table)) (all is_letter names) (eqb_T (length names) (length table) (length-take-le (length table) alphabet short)) w.0)
      w.1

  known_agree : (kind : ℕ) (l : List ℕ) → All (Known table kind) l → All (λ (n : ℕ). name_of alphabet n ≡ name_of (plain_names table) n) l
  known_agree kind l h =
      all_implies (Known table kind) (λ (n : ℕ). name_of alphabet n ≡ name_of (plain_names table) n)
      (λ n k. sym (get_or-take (length table) alphabet n 0 (known_is table kind n k).0)) l h

  factors_known_agree : (fs : List (List ℕ)) → All (FactorKnown table) fs
      → All (λ (l : List ℕ). All (λ (n : ℕ). name_of alphabet n ≡ name_of (plain_names table) n) l) fs
  factors_known_agree [] h = tt
  factors_known_agree (f ∷ fs) h = (known_agree _ f h.0, factors_known_agree fs h.1)

  -- the printer's text is the text with the names a, b, c, …
  pub printer-names : (ts : List Term) → AllKnown table ts → print_form alphabet ts ≡ print_form (plain_names table) ts
  printer-names ts k =
      form-agrees alphabet (plain_names table) ts
      (all_implies (λ (t : Term). MonomialKnown table (monomial t)) (TermsAgree alphabet (plain_names table))
      (λ t h. record { factors = factors_known_agree t.factors h.factors; part = known_agree vector t.part h.part }) ts k)

  -- "What the printer prints is a formula": read with the names a, b, c, … it gives the form
  pub printer-read_back : (kind : ℕ) (t : Term) (ts : List Term) → FormInShape (form_of kind (t ∷ ts)) → AllKnown table (t ∷ ts)
      → text_form (plain_names table) table (print_form alphabet (t ∷ ts)) ≡ placed (form_of kind (t ∷ ts))
  printer-read_back kind t ts s k =
      ap (text_form (plain_names table) table) (printer-names (t ∷ ts) k) ∙ read_back_lem (plain_names table) table plain_good kind t ts s k
