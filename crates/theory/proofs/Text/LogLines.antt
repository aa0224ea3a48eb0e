-- A form with its kind and a step, each printed on a line, are read back. Assumes nothing.
use Rattle.std.specs.Prelude.{◌≡◌, Bool, true, false, ℕ, zero, suc, ◌+◌, ◌-◌, ◌<◌, ◌≤◌, length, T, eqb, leb}
use Rattle.std.proofs.Math.Path.{refl, ap}
use Rattle.std.proofs.Common.{sym, ◌∙◌}
use mathlib.Core.List.{List, [], ◌∷◌, ◌++◌}
use native.Mathlib.Omega.{arith}
use Rattle.std.proofs.Math.ListN.{drop}
use Rattle.std.proofs.Math.Dec.{leb→le, eqb-suc-zero}
use borrow.Author.Tests.{le-leb, lt-ltb, eq-eqb, ne_eqb}
use Rattle.specification.specs.Results.{given, when◌then◌else◌}
use Rattle.specification.specs.Letters.{scalar, vector, test_letters}
use Rattle.specification.specs.Terms.{Term, Form, term_kind, term_in_shape}
use Rattle.specification.specs.Records.{test_term}
use Rattle.specification.specs.Rules.{Step, is_rule, rule_letters, step_in_shape, test_step_letters}
use Rattle.specification.specs.Words.{bytes}
use Rattle.specification.specs.Printing.{digits, decimal, name_of, print_terms, print_form, print_rule, print_letters}
use Rattle.specification.specs.Text.{placed, good_names, past_blanks, skip, next, text_form}
use Rattle.specification.specs.Lines.{same_bytes, is_word_at, is_declaration}
use Rattle.specification.specs.LogTexts.{kind_word, from, of_kind, kind_at, read_form_line, read_letters_at, one_term, is_step_line, read_step_line}
use Rattle.theory.specs.Tests.{and_split, tested}
use Rattle.theory.specs.Elements.{All, all_T}
use Rattle.theory.specs.Shape.Forms.{FormInShape}
use Rattle.theory.specs.Shape.Letters.{AllKnown, letters_known, term_known}
use Rattle.theory.specs.Reduction.Standing.{term_in_shape_lem}
use Rattle.theory.proofs.Rules.Steps.{step-opens}
use Rattle.theory.specs.Text.Positions.{Sharp, stand-byte, stand_next, skip_none, next_one}
use Rattle.theory.specs.Text.Names.{name-letter, name-place}
use Rattle.theory.specs.Text.Pieces.{letter-other}
use Rattle.theory.specs.Text.Sums.{form-sharp}
use Rattle.theory.specs.Text.Forms.{form_of}
use Rattle.theory.specs.Text.RoundTrip.{known_named, term-readable, read_back_lem, read_nothing}
use Rattle.theory.specs.Text.OneLine.{OneLine, Begins, line-append, decimal-line, form_line_lem, letters-line}
use Rattle.theory.specs.Text.Words.{skip_blank, mark_next, mark-blank}

-- ════ a form

-- the line of a form, without its newline
unfoldable pub form_text : (names : List ℕ) → Form → List ℕ
form_text names f = kind_word f.kind ++ 32 ∷ print_form names f.terms

-- a formula behind the word of its kind
behind-kind : (names table : List ℕ) (kind : ℕ) (xs : List ℕ) (f : Form) → kind ≤ 1 → Sharp xs → text_form names table xs ≡ placed f
    → read_form_line names table (kind_word kind ++ 32 ∷ xs) ≡ of_kind kind 7 f
unfolding read_form_line kind_at from kind_word is_word_at same_bytes skip past_blanks bytes
behind-kind names table zero xs f h sharp e = rw (sharp, e) refl
behind-kind names table (suc zero) xs f h sharp e = rw (sharp, e) refl
behind-kind names table (suc (suc k)) xs f h sharp e = absurd (omega arith)

module _ (names table : List ℕ) (good : T (good_names names table)) where
  -- a printed form begins with no blank
  printed-sharp : (kind : ℕ) (ts : List Term) → FormInShape (form_of kind ts) → AllKnown table ts → Sharp (print_form names ts)
  unfolding print_form
  printed-sharp kind [] s k = refl
  printed-sharp kind (t ∷ ts) s k =
      form-sharp names table [] good t.coef t (print_terms names ts) (term-readable names table good t ((all_T term_in_shape (t ∷ ts) s.terms).0, k.0))

  -- its text behind the word of its kind is read to the form
  form_by_lem : (kind : ℕ) (ts : List Term) → FormInShape (form_of kind ts) → AllKnown table ts
      → read_form_line names table (kind_word kind ++ 32 ∷ print_form names ts) ≡ placed (form_of kind ts)
  unfolding of_kind
  form_by_lem kind [] s k = behind-kind names table kind (print_form names []) (form_of scalar []) s.kind (printed-sharp kind [] s k) (read_nothing names table)
  form_by_lem kind (t ∷ ts) s k =
      behind-kind names table kind (print_form names (t ∷ ts)) (form_of kind (t ∷ ts)) s.kind (printed-sharp kind (t ∷ ts) s k)
      (read_back_lem names table good kind t ts s k)
      ∙ rw (eqb-suc-zero (length ts), eq-eqb kind kind refl)

  -- the line of a form is read to the form
  pub form-read_back : (f : Form) → FormInShape f → AllKnown table f.terms → read_form_line names table (form_text names f) ≡ placed f
  unfolding form_text
  form-read_back f s k = form_by_lem f.kind f.terms s k

-- one of the two words, and what stands behind it
kind-are : (P : List ℕ → Type 0) (k : ℕ) (l : List ℕ) → P (bytes "scalar" ++ l) → P (bytes "vector" ++ l) → P (kind_word k ++ l)
unfolding kind_word
kind-are P k l f g = go (eqb k scalar)
  where
    go : (b : Bool) → P ((when b then bytes "scalar" else bytes "vector") ++ l)
    go true = f
    go false = g

module _ (names : List ℕ) (f : Form) where
  -- the line of a form declares no names
  pub form-declares_none : is_declaration (form_text names f) ≡ false
  unfolding form_text is_declaration is_word_at same_bytes skip past_blanks bytes
  form-declares_none = kind-are (λ (l : List ℕ). is_declaration l ≡ false) f.kind (32 ∷ print_form names f.terms) refl refl

  -- is no step
  pub form-no_step : is_step_line (form_text names f) ≡ false
  unfolding form_text is_step_line is_word_at same_bytes skip past_blanks bytes
  form-no_step = kind-are (λ (l : List ℕ). is_step_line l ≡ false) f.kind (32 ∷ print_form names f.terms) refl refl

  -- has no newline
  pub form-one_line : OneLine names → OneLine (form_text names f)
  unfolding form_text bytes
  form-one_line h =
      let w : OneLine (32 ∷ print_form names f.terms) = (refl, form_line_lem names h f.terms) in
      kind-are OneLine f.kind (32 ∷ print_form names f.terms) (refl, (refl, (refl, (refl, (refl, (refl, w))))))
      (refl, (refl, (refl, (refl, (refl, (refl, w))))))

  -- and begins with a letter
  pub form-begins : (l : List ℕ) → Begins (form_text names f ++ l)
  unfolding form_text bytes
  form-begins l =
      kind-are (λ (k : List ℕ). Begins (k ++ l)) f.kind (32 ∷ print_form names f.terms)
      (record { no_newline = refl; no_blank = refl }) (record { no_newline = refl; no_blank = refl })

-- ════ a step

-- `, M = ` and a formula
abbrev multiplier_text : List ℕ → List ℕ
multiplier_text xs = 44 ∷ 32 ∷ 77 ∷ 32 ∷ 61 ∷ 32 ∷ xs

-- the line of a step, without its newline
unfoldable pub step_text : (names : List ℕ) → Step → List ℕ
step_text names s = print_rule s.rule ++ print_letters names s.letters ++ multiplier_text (print_form names (s.m ∷ []))

-- a rule's number is one digit
rule-text : (rule : ℕ) → rule < 10 → print_rule rule ≡ 114 ∷ 117 ∷ 108 ∷ 101 ∷ 32 ∷ (48 + rule) ∷ 58 ∷ []
unfolding print_rule decimal digits
rule-text rule h = rw (lt-ltb rule 10 h)

module _ (names table : List ℕ) (good : T (good_names names table)) (line : List ℕ) where
  -- letters are read
  letters-at : (ls : List ℕ) (a : ℕ) (l : List ℕ) → All (λ (n : ℕ). n < length names) ls → drop a line ≡ print_letters names ls ++ 44 ∷ l
      → (b : ℕ) × (read_letters_at (length ls) names line (skip line a) ≡ placed (ls, b)) × (drop b line ≡ 44 ∷ l)
  unfolding print_letters read_letters_at next
  letters-at [] a l h e = (a, ap (λ (p : ℕ). placed ([], p)) (skip_none line a (44 ∷ l) e refl), e)
  letters-at (n ∷ ls) a l h e =
      let rest = name_of names n ∷ (print_letters names ls ++ 44 ∷ l) in
      let c = name-letter names table good n h.0 in
      let e₁ : drop (a + 1) line ≡ rest = stand_next line a 32 rest e in
      let w = letters-at ls (a + 1 + 1) l h.1 (stand_next line (a + 1) (name_of names n) (print_letters names ls ++ 44 ∷ l) e₁) in (
        w.0,
        rw (
          skip_blank line a rest e (letter-other (name_of names n) 32 c (omega arith)),
          stand-byte line (a + 1) rest e₁,
          c,
          name-place names table good n h.0,
          lt-ltb n (length names) h.0,
          w.1,
        )
            refl,
        w.2,
      )

  -- where the letters begin
  behind_colon_lem : next line 6 ≡ skip line 7
  unfolding next
  behind_colon_lem = refl

  -- the rule's number, its letters, and M
  step_by : (rule kind : ℕ) (ls : List ℕ) (m : Term) (xs : List ℕ) → T (is_rule rule) → length ls ≡ rule_letters rule
      → All (λ (n : ℕ). n < length names) ls → Sharp xs → text_form names table xs ≡ placed (form_of kind (m ∷ []))
      → line ≡ 114 ∷ 117 ∷ 108 ∷ 101 ∷ 32 ∷ (48 + rule) ∷ 58 ∷ (print_letters names ls ++ multiplier_text xs)
      → read_step_line names table line ≡ placed (record { rule = rule; letters = ls; m = m })
  unfolding read_step_line is_rule from one_term
  step_by rule kind ls m xs r c h sharp t e =
      let l = print_letters names ls ++ multiplier_text xs in
      let k = and_split (leb 1 rule) (leb rule 5) r in
      let low : 1 ≤ rule = leb→le 1 rule k.0 in
      let high : rule ≤ 5 = leb→le rule 5 k.1 in
      let minus : 48 + rule - 48 ≡ rule = omega arith in
      let w = letters-at ls 7 (32 ∷ 77 ∷ 32 ∷ 61 ∷ 32 ∷ xs) h (ap (drop 7) e) in
      let b = w.0 in
      let e₁ : drop (b + 1 + 1) line ≡ 77 ∷ 32 ∷ 61 ∷ 32 ∷ xs = stand_next line (b + 1) 32 _ (stand_next line b 44 _ w.2) in
      let e₂ : drop (b + 1 + 1 + 1 + 1) line ≡ 61 ∷ 32 ∷ xs = stand_next line (b + 1 + 1 + 1) 32 _ (stand_next line (b + 1 + 1) 77 _ e₁) in
      let e₃ : drop (b + 1 + 1 + 1 + 1 + 1 + 1) line ≡ xs = stand_next line (b + 1 + 1 + 1 + 1 + 1) 32 _ (stand_next line (b + 1 + 1 + 1 + 1) 61 _ e₂) in
      let letters : read_letters_at (rule_letters rule) names line (next line 6) ≡ placed (ls, b) =
      ap (λ (n : ℕ). read_letters_at n names line (next line 6)) (sym c) ∙ ap (read_letters_at (length ls) names line) behind_colon_lem ∙ w.1 in
      rw (
        skip_none line 0 (114 ∷ 117 ∷ 108 ∷ 101 ∷ 32 ∷ (48 + rule) ∷ 58 ∷ l) e refl,
        skip_blank line 4 ((48 + rule) ∷ 58 ∷ l) (ap (drop 4) e) (ne_eqb (48 + rule) 32 (λ q. omega arith)),
        stand-byte line 5 ((48 + rule) ∷ 58 ∷ l) (ap (drop 5) e),
        le-leb 49 (48 + rule) (omega arith),
        le-leb (48 + rule) 53 (omega arith),
        minus,
        next_one line 5 (48 + rule) (58 ∷ l) (ap (drop 5) e) refl,
        mark_next line 58 6 l (ap (drop 6) e),
        letters,
        mark-blank line 44 b (77 ∷ 32 ∷ 61 ∷ 32 ∷ xs) w.2 refl,
        mark-blank line 77 (b + 1 + 1) (61 ∷ 32 ∷ xs) e₁ refl,
        mark-blank line 61 (b + 1 + 1 + 1 + 1) xs e₂ sharp,
        e₃,
        t,
      )
      refl

-- how the line of a step begins
step-spelled : (names : List ℕ) (s : Step) → s.rule < 10
    → step_text names s ≡ 114 ∷ 117 ∷ 108 ∷ 101 ∷ 32 ∷ (48 + s.rule) ∷ 58 ∷ (print_letters names s.letters ++ multiplier_text (print_form names (s.m ∷ [])))
unfolding step_text
step-spelled names s h =
    ap (λ (k : List ℕ). k ++ print_letters names s.letters ++ multiplier_text (print_form names (s.m ∷ []))) (rule-text s.rule h)

-- a rule's number is below 10
rule-small : (s : Step) → T (step_in_shape s) → s.rule < 10
unfolding is_rule
rule-small s h = omega (arith, leb→le s.rule 5 (and_split (leb 1 s.rule) (leb s.rule 5) (step-opens s h).rule).1)

-- a rule's number with its word has no newline
rule-line : (rule : ℕ) → OneLine (print_rule rule)
unfolding print_rule
rule-line rule =
    line-append (114 ∷ 117 ∷ 108 ∷ 101 ∷ 32 ∷ decimal rule) (58 ∷ []) (refl, (refl, (refl, (refl, (refl, decimal-line rule))))) (refl, tt)

-- and neither has the line of a step
pub step-one_line : (names : List ℕ) (s : Step) → OneLine names → OneLine (step_text names s)
unfolding step_text
step-one_line names s h =
    let m = multiplier_text (print_form names (s.m ∷ [])) in
    line-append (print_rule s.rule ++ print_letters names s.letters) m
    (line-append (print_rule s.rule) (print_letters names s.letters) (rule-line s.rule) (letters-line names h s.letters))
    (refl, (refl, (refl, (refl, (refl, (refl, form_line_lem names h (s.m ∷ [])))))))

module _ (names : List ℕ) (s : Step) (h : T (step_in_shape s)) where
  -- the line of a step begins with its word
  pub step_is : is_step_line (step_text names s) ≡ true
  unfolding is_step_line is_word_at same_bytes skip past_blanks bytes
  step_is = rw (step-spelled names s (rule-small s h)) refl

  -- so no blank or newline stands in front
  pub step-begins : (l : List ℕ) → Begins (step_text names s ++ l)
  step-begins l = rw (step-spelled names s (rule-small s h)) (record { no_newline = refl; no_blank = refl })

module _ (names table : List ℕ) (good : T (good_names names table)) where
  -- the line of a step is read to the step
  pub step-read_back : (s : Step) → T (step_in_shape s) → test_step_letters table s ≡ given tt → read_step_line names table (step_text names s) ≡ placed s
  unfolding test_step_letters
  step-read_back s h e =
      let o = step-opens s h in
      let w = tested (test_letters table vector s.letters) (test_term table s.m) tt e in
      let f = term_in_shape_lem s.m o.m in
      let k : AllKnown table (s.m ∷ []) = (term_known table s.m w.1, tt) in
      step_by names table good (step_text names s) s.rule (term_kind s.m) s.letters s.m (print_form names (s.m ∷ [])) o.rule o.long
      (known_named names table good vector s.letters (letters_known table vector s.letters w.0))
      (printed-sharp names table good (term_kind s.m) (s.m ∷ []) f k)
      (read_back_lem names table good (term_kind s.m) s.m [] f k)
      (step-spelled names s (rule-small s h))
