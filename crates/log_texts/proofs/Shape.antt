-- What the text of a log says is in shape: its names and its table are good, its forms and its steps are in shape, the letters of its forms and of each M are
-- in the table, those of the rules are named, and there are at most 64 steps. Assumes nothing.
use mathlib.Core.Path.{◌≡◌, refl, sym, ap, subst}
use mathlib.Core.Bool.{Bool, true, false, ◌&&◌}
use mathlib.Core.List.{List, [], ◌∷◌, ◌++◌}
use Prim.Native.Nat.{ℕ, zero, suc, ◌+◌, ◌-◌, ◌≤◌, ◌<◌}
use native.Mathlib.Omega.{arith}
use lib.Dec.{T, ltb, leb, eqb, ltb→lt, leb→le, le→leb}
use lib.ListN.{length, get_or, drop, length-append}
use Rattle.specification.specs.Results.{given, when◌then◌else◌}
use Rattle.specification.specs.Lists.{all, ascend}
use Rattle.specification.specs.Letters.{good_table}
use Rattle.specification.specs.Words.{bytes}
use Rattle.specification.specs.Terms.{Term, Form, term_in_shape}
use Rattle.specification.specs.Records.{test_term, test_terms}
use Rattle.specification.specs.Rules.{Step, is_rule, rule_letters, step_in_shape}
use Rattle.specification.specs.Text.{Placed, refused_at, placed, ◌>>=◌, is_letter, good_names, place_of, skip, next, text_form}
use Rattle.specification.specs.Lines.{Place, line_of, next_line, to_line, at_end, Lined, refused_in, lined, in_line, ◌>>>◌, is_word_at, Named, read_header}
use Rattle.specification.specs.LogTexts.{from, of_kind, kind_at, read_form_line, mark, read_letters_at, one_term, is_step_line, read_step_line, read_step_lines}
use Rattle.specification.specs.LogTexts.{LogRead, nothing_left, read_log_lines, read_log_text}
use Rattle.theory.specs.Tests.{and_both, and_split, eqb_T, tested}
use Rattle.theory.specs.Elements.{All, all_append}
use Rattle.theory.specs.Shape.Forms.{FormInShape}
use Rattle.theory.specs.Text.Names.{names_count}
use Rattle.theory.proofs.Text.Letters.{text_keeps_value}
use Rattle.theory.specs.Text.GoodNames.{header_good}
use Rattle.log_texts.specs.Letters.{behind_letters}
use Rattle.log_texts.specs.Formulas.{behind_mark}
use Rattle.log_texts.specs.Steps.{behind_colon}
use Rattle.log_texts.proofs.StepLines.{by-rule}

-- ════ what holds of a result, if there is one

module _ {A : Type 0} (P : A → Type 0) where
  -- of a line
  abbrev Holds : Placed A → Type 0
  Holds (refused_at n c) = Unit {0}
  Holds (placed a) = P a

  -- of a text
  abbrev HoldsIn : Lined A → Type 0
  HoldsIn (refused_in n k c t) = Unit {0}
  HoldsIn (lined a) = P a

  either : (b : Bool) (x : Placed A) (n c : ℕ) → (T b → Holds x) → Holds (when b then x else refused_at n c)
  either true x n c h = h tt
  either false x n c h = tt

  choice : (b : Bool) (x y : Placed A) → Holds x → Holds y → Holds (when b then x else y)
  choice true x y h k = h
  choice false x y h k = k

  choice_in : (b : Bool) (x y : Lined A) → HoldsIn x → HoldsIn y → HoldsIn (when b then x else y)
  choice_in true x y h k = h
  choice_in false x y h k = k

  in_line_lem : (p : Place) (x : Placed A) → Holds x → HoldsIn (in_line p x)
  unfolding in_line
  in_line_lem p (refused_at n c) h = tt
  in_line_lem p (placed a) h = h

  shifted : (at : ℕ) (x : Placed A) → Holds x → Holds (from at x)
  unfolding from
  shifted at (refused_at n c) h = tt
  shifted at (placed a) h = h

module _ {A B : Type 0} (P : A → Type 0) (Q : B → Type 0) where
  follow : (x : Placed A) (k : A → Placed B) → Holds P x → ((a : A) → P a → Holds Q (k a)) → Holds Q (x >>= k)
  follow (refused_at n c) k h f = tt
  follow (placed a) k h f = f a h

  follow_in : (x : Lined A) (k : A → Lined B) → HoldsIn P x → ((a : A) → P a → HoldsIn Q (k a)) → HoldsIn Q (x >>> k)
  follow_in (refused_in n k c t) f h g = tt
  follow_in (lined a) f h g = g a h

-- any result
abbrev Any : {A : Type 0} → A → Type 0
Any a = Unit {0}

any : {A : Type 0} (x : Placed A) → Holds Any x
any (refused_at n c) = tt
any (placed a) = tt

-- ════ forms and steps

-- a form in shape whose letters are in the table
pub record FormGood (table : List ℕ) (f : Form) : Type 0 where
  pub in_shape : FormInShape f
  pub tested : test_terms table f.terms ≡ given tt

-- a step in shape; M's letters are in the table, the rule's are named
pub record StepGood (names table : List ℕ) (s : Step) : Type 0 where
  pub in_shape : T (step_in_shape s)
  pub tested : test_term table s.m ≡ given tt
  pub named : All (λ (n : ℕ). n < length names) s.letters

module _ (names table : List ℕ) (good : T (good_table table)) (fit : length names ≤ length table) where
  text_good : (s : List ℕ) → Holds (FormGood table) (text_form names table s)
  text_good s = go (text_form names table s) refl
    where
      go : (x : Placed Form) → text_form names table s ≡ x → Holds (FormGood table) x
      go (refused_at n c) e = tt
      go (placed f) e = let w = text_keeps_value names table s good fit f e in record { in_shape = w.in_shape; tested = w.letters_tested }

  -- ════ the line of a form

  empty_good : (kind : ℕ) → kind ≤ 1 → FormGood table (record { kind = kind; terms = [] })
  unfolding test_terms all ascend
  empty_good kind k = record { in_shape = record { kind = k; count = omega arith; terms = tt; parts = tt; ascending = tt }; tested = refl }

  kind_good : (kind at : ℕ) (f : Form) → kind ≤ 1 → FormGood table f → Holds (FormGood table) (of_kind kind at f)
  unfolding of_kind
  kind_good kind at f k h =
      choice (FormGood table) (eqb (length f.terms) 0) (placed (record { kind = kind; terms = [] }))
      (when eqb f.kind kind then placed f else refused_at 6 at)
      (empty_good kind k) (either (FormGood table) (eqb f.kind kind) (placed f) 6 at (λ _. h))

  formula_good : (line : List ℕ) (kind at : ℕ) → kind ≤ 1 → Holds (FormGood table) (kind_at names table line kind at)
  unfolding kind_at
  formula_good line kind at k =
      follow (FormGood table) (FormGood table) (from at (text_form names table (drop at line))) (of_kind kind at)
      (shifted (FormGood table) at (text_form names table (drop at line)) (text_good (drop at line))) (λ f h. kind_good kind at f k h)

  form_line_good : (line : List ℕ) → Holds (FormGood table) (read_form_line names table line)
  unfolding read_form_line
  form_line_good line =
      choice (FormGood table) (is_word_at (bytes "vector") line (skip line 0)) (kind_at names table line 1 (skip line (skip line 0 + 6)))
      (when is_word_at (bytes "scalar") line (skip line 0) then kind_at names table line 0 (skip line (skip line 0 + 6)) else refused_at 4 (skip line 0))
      (formula_good line 1 (skip line (skip line 0 + 6)) (omega arith))
      (either (FormGood table) (is_word_at (bytes "scalar") line (skip line 0)) (kind_at names table line 0 (skip line (skip line 0 + 6))) 4 (skip line 0)
      (λ _. formula_good line 0 (skip line (skip line 0 + 6)) (omega arith)))

  -- ════ the line of a step

  -- so many letters, all named
  abbrev LettersGood : ℕ → List ℕ × ℕ → Type 0
  LettersGood count r = (length r.0 ≡ count) × All (λ (n : ℕ). n < length names) r.0

  letters_good : (count : ℕ) (line : List ℕ) (at : ℕ) → Holds (LettersGood count) (read_letters_at count names line at)
  unfolding read_letters_at
  letters_good zero line at = (refl, tt)
  letters_good (suc count) line at =
      either (LettersGood (suc count)) (is_letter (get_or line at 0)) _ 4 at
      (λ _. either (LettersGood (suc count)) (ltb (place_of names (get_or line at 0)) (length names)) _ 5 at
      (λ l. follow (LettersGood count) (LettersGood (suc count)) (read_letters_at count names line (next line at))
      (λ r. placed (place_of names (get_or line at 0) ∷ r.0, r.1))
      (letters_good count line (next line at)) (λ r h. (ap suc h.0, (ltb→lt (place_of names (get_or line at 0)) (length names) l, h.1)))))

  -- a term in shape whose letters are in the table
  abbrev TermGood : Term → Type 0
  TermGood t = T (term_in_shape t) × (test_term table t ≡ given tt)

  term_good : (at : ℕ) (kind : ℕ) (ts : List Term) → T (all term_in_shape ts) → test_terms table ts ≡ given tt
      → Holds TermGood (one_term at (record { kind = kind; terms = ts }))
  unfolding one_term all test_terms
  term_good at kind [] h e = tt
  term_good at kind (t ∷ []) h e = ((and_split (term_in_shape t) true h).0, (tested (test_term table t) (given tt) tt e).0)
  term_good at kind (t ∷ u ∷ ts) h e = tt

  colon_good : (line : List ℕ) (rule at : ℕ) → T (is_rule rule) → Holds (StepGood names table) (behind_colon names table line rule at)
  unfolding behind_colon behind_letters behind_mark step_in_shape
  colon_good line rule at r =
      follow (LettersGood (rule_letters rule)) (StepGood names table) (read_letters_at (rule_letters rule) names line at) _
      (letters_good (rule_letters rule) line at) λ l h.
      follow Any (StepGood names table) (mark 44 line l.1) _ (any (mark 44 line l.1)) λ m _.
      follow Any (StepGood names table) (mark 77 line m) _ (any (mark 77 line m)) λ equals _.
      follow Any (StepGood names table) (mark 61 line equals) _ (any (mark 61 line equals)) λ formula _.
      follow (FormGood table) (StepGood names table) (from formula (text_form names table (drop formula line))) _
      (shifted (FormGood table) formula (text_form names table (drop formula line)) (text_good (drop formula line))) λ f g.
      follow TermGood (StepGood names table) (one_term formula f) (λ t. placed (record { rule = rule; letters = l.0; m = t }))
      (term_good formula f.kind f.terms g.in_shape.terms g.tested) λ t k.
      record {
        in_shape = and_both (is_rule rule && eqb (length l.0) (rule_letters rule)) (term_in_shape t)
            (and_both (is_rule rule) (eqb (length l.0) (rule_letters rule)) r (eqb_T (length l.0) (rule_letters rule) h.0)) k.0;
        tested = k.1;
        named = h.1;
      }

  step-line_good : (line : List ℕ) → Holds (StepGood names table) (read_step_line names table line)
  unfolding is_rule
  step-line_good line = subst (Holds (StepGood names table)) (sym (by-rule names table line))
      (either (StepGood names table) (leb 49 b && leb b 53) (mark 58 line (next line at) >>= behind_colon names table line (b - 48)) 4 at
      (λ t. follow Any (StepGood names table) (mark 58 line (next line at)) (behind_colon names table line (b - 48)) (any (mark 58 line (next line at)))
      (λ letters _. colon_good line (b - 48) letters (digit (and_split (leb 49 b) (leb b 53) t)))))
    where
      at : ℕ
      at = skip line (skip line 0 + 4)

      b : ℕ
      b = get_or line at 0

      digit : T (leb 49 b) × T (leb b 53) → T (is_rule (b - 48))
      digit w =
          let low = leb→le 49 b w.0 in
          let high = leb→le b 53 w.1 in
          and_both (leb 1 (b - 48)) (leb (b - 48) 5) (le→leb 1 (b - 48) (omega arith)) (le→leb (b - 48) 5 (omega arith))

  -- ════ the lines of steps

  -- good steps, at most so many
  abbrev StepsGood : ℕ → List Step × Place → Type 0
  StepsGood n r = All (StepGood names table) r.0 × (length r.0 ≤ n)

  steps_good : (most : ℕ) (p : Place) (before : List Step) (n : ℕ) → All (StepGood names table) before → length before + most ≤ n
      → HoldsIn (StepsGood n) (read_step_lines most names table p before)
  unfolding read_step_lines
  steps_good zero p before n h l = choice_in (StepsGood n) (is_step_line (line_of p)) (refused_in 3 p.0 0 (line_of p)) (lined (before, p)) tt (h, omega arith)
  steps_good (suc most) p before n h l =
      choice_in (StepsGood n) (is_step_line (line_of p)) _ (lined (before, p))
      (follow_in (StepGood names table) (StepsGood n) (in_line p (read_step_line names table (line_of p)))
      (λ s. read_step_lines most names table (to_line (next_line p)) (before ++ s ∷ []))
      (in_line_lem (StepGood names table) p (read_step_line names table (line_of p)) (step-line_good (line_of p)))
      (λ s g. steps_good most (to_line (next_line p)) (before ++ s ∷ []) n (all_append (StepGood names table) before (s ∷ []) h (g, tt))
      (omega (arith, length-append before (s ∷ []))))) (h, omega arith)

-- ════ the text of a log

-- what a text of a log says is in shape
pub record LogGood (l : LogRead) : Type 0 where
  pub table_good : T (good_table l.table)
  pub names_good : T (good_names l.names l.table)
  pub first : FormGood l.table l.first
  pub steps : All (StepGood l.names l.table) l.steps
  pub few : length l.steps ≤ 64
  pub last : FormGood l.table l.last

lines_good : (names table : List ℕ) (p : Place) → T (good_table table) → T (good_names names table) → HoldsIn LogGood (read_log_lines names table p)
unfolding read_log_lines nothing_left
lines_good names table p good fits =
    let fit : length names ≤ length table = omega (arith, names_count names table fits) in
    follow_in (FormGood table) LogGood (in_line p (read_form_line names table (line_of p))) _
    (in_line_lem (FormGood table) p (read_form_line names table (line_of p)) (form_line_good names table good fit (line_of p))) λ first a.
    follow_in (StepsGood names table good fit 64) LogGood (read_step_lines 64 names table (to_line (next_line p)) []) _
    (steps_good names table good fit 64 (to_line (next_line p)) [] 64 tt (omega arith)) λ r b.
    follow_in (FormGood table) LogGood (in_line r.1 (read_form_line names table (line_of r.1))) _
    (in_line_lem (FormGood table) r.1 (read_form_line names table (line_of r.1)) (form_line_good names table good fit (line_of r.1))) λ last c.
    choice_in LogGood (at_end (to_line (next_line r.1))) (lined (record { names = names; table = table; first = first; steps = r.0; last = last })) _
    (record { table_good = good; names_good = fits; first = a; steps = b.0; few = b.1; last = c }) tt

-- a text of a log that is read says a log in shape
pub log_good : (s : List ℕ) (l : LogRead) → read_log_text s ≡ lined l → LogGood l
unfolding read_log_text
log_good s l e = subst (HoldsIn LogGood) e (go (read_header s) refl)
  where
    go : (x : Lined (Named × Place)) → read_header s ≡ x → HoldsIn LogGood (x >>> λ h. read_log_lines h.0.0 h.0.1 h.1)
    go (refused_in n k c t) q = tt
    go (lined h) q = let w = header_good s h.0.0 h.0.1 h.1 q in lines_good h.0.0 h.0.1 h.1 w.table_good w.names_good
