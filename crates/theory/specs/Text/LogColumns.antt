-- The column of a refusal that is told of a log as text is in its line. Assumes nothing.
use Rattle.std.specs.Prelude.{◌≡◌, refl, Bool, ◌&&◌, ◌||◌, T, ltb, eqb, drop}
use Rattle.std.proofs.Common.{sym, ◌∙◌, ap, subst, eqb→eq, length-drop}
use Rattle.std.proofs.Math.Bool.{true, false}
use mathlib.Core.List.{List, [], ◌∷◌, ◌++◌}
use Prim.Native.Nat.{ℕ, zero, suc, ◌+◌, ◌-◌, ◌≤◌, ◌<◌}
use native.Mathlib.Omega.{arith}
use Rattle.std.proofs.Math.Dec.{leb, leb→le}
use Rattle.std.proofs.Math.ListN.{length, get_or}
use Rattle.specification.specs.Results.{when◌then◌else◌}
use Rattle.specification.specs.Letters.{scalar, vector}
use Rattle.specification.specs.Terms.{Term, Form}
use Rattle.specification.specs.Rules.{Step, rule_letters}
use Rattle.specification.specs.Words.{bytes}
use Rattle.specification.specs.Text.{Placed, refused_at, placed, ◌>>=◌, is_letter, place_of, skip, next, text_form}
use Rattle.specification.specs.Lines.{Place, line_of, next_line, to_line, at_end, Lined, refused_in, lined, in_line, ◌>>>◌, is_word_at, read_header}
use Rattle.specification.specs.LogTexts.{from, of_kind, kind_at, read_form_line, mark, read_letters_at, one_term, is_step_line, read_step_line, read_step_lines, LogRead, nothing_left, read_log_lines, read_log_text}
use Rattle.theory.specs.Tests.{and_split}
use Rattle.theory.specs.Text.LineColumns.{Within, ColumnWithin, then-within, line-within, header-within, formula_within}
use Rattle.theory.specs.Text.Bounds.{there, there-letter, skip_within, next_within}
use Rattle.theory.specs.Text.PartColumns.{Reads, reads_then, refused_reads, placed-reads, reads-within, Any, At, Behind, formula_reads, behind-word, mark-reads, end-within}

module _ (line : List ℕ) where
  of_kind-reads : (kind at : ℕ) (f : Form) → at ≤ length line → Reads line Any (of_kind kind at f)
  unfolding Reads of_kind
  of_kind-reads kind at f l = go (eqb (length f.terms) 0) (eqb f.kind kind)
    where
      go : (a b : Bool) → Reads line Any (when a then placed (record { kind = kind; terms = [] }) else when b then placed f else refused_at 6 at)
      go true b = tt
      go false true = tt
      go false false = l

  kind-reads : (names table : List ℕ) (kind at : ℕ) → at ≤ length line → Reads line Any (kind_at names table line kind at)
  unfolding kind_at
  kind-reads names table kind at l =
      reads_then line Any Any (from at (text_form names table (drop at line))) (of_kind kind at) (formula_reads line names table at l) (λ f _. of_kind-reads kind at f l)

  -- the line of a form
  form_line-reads : (names table : List ℕ) → Reads line Any (read_form_line names table line)
  unfolding read_form_line bytes
  form_line-reads names table =
      go (is_word_at (bytes "vector") line (skip line 0)) (is_word_at (bytes "scalar") line (skip line 0)) (behind-word line (bytes "vector") (skip line 0) (omega arith))
      (behind-word line (bytes "scalar") (skip line 0) (omega arith))
    where
      go : (a b : Bool) → (a ≡ true → skip line (skip line 0 + 6) ≤ length line) → (b ≡ true → skip line (skip line 0 + 6) ≤ length line)
          → Reads line Any (when a then kind_at names table line vector (skip line (skip line 0 + 6)) else
          when b then kind_at names table line scalar (skip line (skip line 0 + 6)) else refused_at 4 (skip line 0))
      go true b f g = kind-reads names table vector (skip line (skip line 0 + 6)) (f refl)
      go false true f g = kind-reads names table scalar (skip line (skip line 0 + 6)) (g refl)
      go false false f g = refused_reads line Any 4 (skip line 0) (skip_within line 0 (omega arith))

  pub form_line-within : (names table : List ℕ) → ColumnWithin line (read_form_line names table line)
  form_line-within names table = reads-within line Any (read_form_line names table line) (form_line-reads names table)

  letters_read : (count : ℕ) (names : List ℕ) (at : ℕ) → At line at → Reads line (Behind line) (read_letters_at count names line at)
  unfolding read_letters_at
  letters_read zero names at l = placed-reads line (Behind line) ([], at) l
  letters_read (suc count) names at l =
      go (is_letter (get_or line at 0)) (ltb (place_of names (get_or line at 0)) (length names)) (there-letter line at) (letters_read count names (next line at))
    where
      go : (a b : Bool) → (T a → at < length line) → (At line (next line at) → Reads line (Behind line) (read_letters_at count names line (next line at)))
          → Reads line (Behind line) (when a then (when b then (read_letters_at count names line (next line at) >>= λ r. placed (place_of names (get_or line at 0) ∷ r.0, r.1)) else refused_at 5 at) else refused_at 4 at)
      go true true f again =
          reads_then line (Behind line) (Behind line) (read_letters_at count names line (next line at)) (λ r. placed (place_of names (get_or line at 0) ∷ r.0, r.1))
          (again (next_within line at (f tt))) (λ r h. placed-reads line (Behind line) (place_of names (get_or line at 0) ∷ r.0, r.1) h)
      go true false f again = refused_reads line (Behind line) 5 at l
      go false b f again = refused_reads line (Behind line) 4 at l

  one_term-reads : (at : ℕ) (f : Form) → At line at → Reads line Any (one_term at f)
  unfolding one_term
  one_term-reads at f l = go f.terms
    where
      go : (ts : List Term) → Reads line Any (one_term at (record { kind = f.kind; terms = ts }))
      go [] = refused_reads line Any 11 at l
      go (t ∷ []) = placed-reads line Any t tt
      go (t ∷ u ∷ ts) = refused_reads line Any 11 at l

  -- a step
  module _ (names table : List ℕ) (stands : is_step_line line ≡ true) where
    abbrev at : ℕ
    at = skip line (skip line 0 + 4)

    abbrev rule : ℕ
    rule = get_or line at 0 - 48

    at_within : At line at
    unfolding is_step_line bytes
    at_within = behind-word line (bytes "rule") (skip line 0) (omega arith) stands

    abbrev step_with : (letters : List ℕ) → Term → Placed Step
    step_with letters t = placed (record { rule = rule; letters = letters; m = t })

    abbrev behind_formula : (letters : List ℕ) (formula : ℕ) → Form → Placed Step
    behind_formula letters formula f = one_term formula f >>= step_with letters

    abbrev behind_equals : (letters : List ℕ) (formula : ℕ) → Placed Step
    behind_equals letters formula = from formula (text_form names table (drop formula line)) >>= behind_formula letters formula

    step_with-reads : (letters : List ℕ) (t : Term) → Reads line Any (step_with letters t)
    unfolding Reads
    step_with-reads letters t = tt

    multiplier-reads : (letters : List ℕ) (formula : ℕ) → At line formula → Reads line Any (behind_equals letters formula)
    multiplier-reads letters formula l =
        reads_then line Any Any (from formula (text_form names table (drop formula line))) (behind_formula letters formula) (formula_reads line names table formula l)
        (λ f _. reads_then line Any Any (one_term formula f) (step_with letters) (one_term-reads formula f l) (λ t _. step_with-reads letters t))

    abbrev behind_names : List ℕ × ℕ → Placed Step
    behind_names r = mark 44 line r.1 >>= λ m. mark 77 line m >>= λ equals. mark 61 line equals >>= behind_equals r.0

    names-reads : (r : List ℕ × ℕ) → At line r.1 → Reads line Any (behind_names r)
    names-reads r l =
        reads_then line (At line) Any (mark 44 line r.1) (λ m. mark 77 line m >>= λ equals. mark 61 line equals >>= behind_equals r.0) (mark-reads line 44 r.1 (omega arith) l)
        (λ m h. reads_then line (At line) Any (mark 77 line m) (λ equals. mark 61 line equals >>= behind_equals r.0) (mark-reads line 77 m (omega arith) h)
        (λ equals k. reads_then line (At line) Any (mark 61 line equals) (behind_equals r.0) (mark-reads line 61 equals (omega arith) k) (multiplier-reads r.0)))

    step-reads : Reads line Any (read_step_line names table line)
    unfolding read_step_line
    step-reads = go (leb 49 (get_or line at 0) && leb (get_or line at 0) 53) (λ t. leb→le 49 (get_or line at 0) (and_split (leb 49 (get_or line at 0)) (leb (get_or line at 0) 53) t).0)
      where
        go : (b : Bool) → (T b → 49 ≤ get_or line at 0)
            → Reads line Any (when b then (mark 58 line (next line at) >>= λ letters. read_letters_at (rule_letters rule) names line letters >>= behind_names) else refused_at 4 at)
        go true f =
            reads_then line (At line) Any (mark 58 line (next line at)) (λ letters. read_letters_at (rule_letters rule) names line letters >>= behind_names)
            (mark-reads line 58 (next line at) (omega arith) (next_within line at (there line at (omega (arith, f tt)))))
            (λ letters l. reads_then line (Behind line) Any (read_letters_at (rule_letters rule) names line letters) behind_names (letters_read (rule_letters rule) names letters l) names-reads)
        go false f = refused_reads line Any 4 at at_within

    pub step-line-within : ColumnWithin line (read_step_line names table line)
    step-line-within = reads-within line Any (read_step_line names table line) step-reads

-- ════ lines

abbrev Steps : Type 0
Steps = List Step × Place

module _ (names table : List ℕ) (p : Place) (before : List Step) where
  abbrev done : Lined Steps
  done = lined (before, p)

  done-within : Within done
  unfolding Within
  done-within = tt

  abbrev too_many : Lined Steps
  too_many = refused_in 3 p.0 0 (line_of p)

  too_many-within : Within too_many
  unfolding Within
  too_many-within = omega arith

  abbrev more : ℕ → Step → Lined Steps
  more most s = read_step_lines most names table (to_line (next_line p)) (before ++ s ∷ [])

  no_more : (b : Bool) → Within (when b then too_many else done)
  no_more true = too_many-within
  no_more false = done-within

  one_more : (most : ℕ) (b : Bool) → (b ≡ true → ColumnWithin (line_of p) (read_step_line names table (line_of p))) → ((s : Step) → Within (more most s))
      → Within (when b then (in_line p (read_step_line names table (line_of p)) >>> more most) else done)
  one_more most true f again =
      then-within (in_line p (read_step_line names table (line_of p))) (more most) (line-within p (read_step_line names table (line_of p)) (f refl)) again
  one_more most false f again = done-within

steps-within : (most : ℕ) (names table : List ℕ) (p : Place) (before : List Step) → Within (read_step_lines most names table p before)
unfolding read_step_lines
steps-within zero names table p before = no_more names table p before (is_step_line (line_of p))
steps-within (suc most) names table p before =
    one_more names table p before most (is_step_line (line_of p)) (step-line-within (line_of p) names table)
    (λ s. steps-within most names table (to_line (next_line p)) (before ++ s ∷ []))

form-within : (names table : List ℕ) (p : Place) → Within (in_line p (read_form_line names table (line_of p)))
form-within names table p = line-within p (read_form_line names table (line_of p)) (form_line-within (line_of p) names table)

module _ (names table : List ℕ) (p : Place) where
  abbrev behind_last : Form → List Step × Place → Form → Lined LogRead
  behind_last first r last = nothing_left (to_line (next_line r.1)) (record { names = names; table = table; first = first; steps = r.0; last = last })

  abbrev behind_steps : Form → List Step × Place → Lined LogRead
  behind_steps first r = in_line r.1 (read_form_line names table (line_of r.1)) >>> behind_last first r

  abbrev behind_first : Form → Lined LogRead
  behind_first first = read_step_lines 64 names table (to_line (next_line p)) [] >>> behind_steps first

  log-lines-within : Within (read_log_lines names table p)
  unfolding read_log_lines
  log-lines-within =
      then-within (in_line p (read_form_line names table (line_of p))) behind_first (form-within names table p)
      (λ first. then-within (read_step_lines 64 names table (to_line (next_line p)) []) (behind_steps first) (steps-within 64 names table (to_line (next_line p)) [])
      (λ r. then-within (in_line r.1 (read_form_line names table (line_of r.1))) (behind_last first r) (form-within names table r.1)
      (λ last. end-within (to_line (next_line r.1)) (record { names = names; table = table; first = first; steps = r.0; last = last }))))

-- a log as text
pub log_within : (s : List ℕ) → Within (read_log_text s)
unfolding read_log_text
log_within s = then-within (read_header s) (λ h. read_log_lines h.0.0 h.0.1 h.1) (header-within s) (λ h. log-lines-within h.0.0 h.0.1 h.1)
