-- A log printed as text, read again, gives its names, its table and its parts; so its bytes come back, and the text. Assumes nothing.
use Rattle.std.specs.Prelude.{◌≡◌, true, false, length, T}
use Rattle.std.proofs.Math.Path.{refl, ap}
use Rattle.std.proofs.Common.{sym, ◌∙◌, arith, length-append}
use mathlib.Core.List.{List, [], ◌∷◌, ◌++◌, map, append_assoc, append-nil}
use Prim.Native.Nat.{ℕ, zero, suc, pred, ◌+◌, ◌≤◌}
use Rattle.std.proofs.Math.Seq.{append_snoc}
use borrow.Author.Tests.{le-leb}
use Rattle.specification.specs.Results.{given}
use Rattle.specification.specs.Lists.{joined}
use Rattle.specification.specs.Letters.{good_table}
use Rattle.specification.specs.Terms.{Form}
use Rattle.specification.specs.Records.{test_terms}
use Rattle.specification.specs.Rules.{Step, test_step_letters}
use Rattle.specification.specs.Logs.{Log, read_log, write_log}
use Rattle.specification.specs.Printing.{print_multiplier, print_step, print_steps}
use Rattle.specification.specs.Text.{placed, good_names}
use Rattle.specification.specs.Lines.{Place, line_of, next_line, at_end, to_line, lined, in_line, ◌>>>◌}
use Rattle.specification.specs.Lines.{Named, declared, read_declared, some_names, is_declaration, read_header}
use Rattle.specification.specs.LogTexts.{names_line, form_line, log_text, is_step_line}
use Rattle.specification.specs.LogTexts.{read_form_line, read_step_line, read_step_lines, nothing_left, read_log_lines, LogRead, read_log_text, log_bytes_of}
use Rattle.theory.specs.Tests.{tested}
use Rattle.theory.specs.Elements.{All}
use Rattle.theory.specs.Shape.Forms.{FormInShape}
use Rattle.theory.specs.Shape.Letters.{AllKnown, terms_known}
use Rattle.theory.specs.Records.Positions.{Bytes}
use Rattle.theory.proofs.Records.Logs.{StepsInShape, LogInShape, log_one_record}
use Rattle.theory.proofs.Replay.Accepted.{test_steps, Derives, Accepted}
use Rattle.theory.specs.Text.OneLine.{OneLine, Begins, first_line_lem, behind_line_lem, line_stays, good_line}
use Rattle.theory.specs.Text.Declared.{names_text, names-read_back, names_some, names_declare, names_line_lem, names-begin}
use Rattle.theory.proofs.Text.LogLines.{form_text, form-read_back, form-declares_none, form-no_step, form-one_line, form-begins}
use Rattle.theory.proofs.Text.LogLines.{step_text, step_is, step-one_line, step-begins, step-read_back}

-- ════ the lines of a log

-- the lines of steps in front of a text
step_lines : (names : List ℕ) → List Step → List ℕ → List ℕ
step_lines names [] l = l
step_lines names (s ∷ ss) l = step_text names s ++ 10 ∷ step_lines names ss l

-- a step that is printed is its line and a newline
step-newline : (names : List ℕ) (s : Step) → print_step names s ≡ step_text names s ++ 10 ∷ []
unfolding print_step print_multiplier step_text
step-newline names s = simp append_assoc

-- so are steps
steps-lines : (names : List ℕ) (ss : List Step) (l : List ℕ) → print_steps names ss ++ l ≡ step_lines names ss l
unfolding step_lines print_steps joined
steps-lines names [] l = refl
steps-lines names (s ∷ ss) l =
    let ih : joined (map (print_step names) ss) ++ l ≡ step_lines names ss l = steps-lines names ss l in
    simp (step-newline, append_assoc, ih)

-- so are the names
names-newline : (names table : List ℕ) → names_line names table ≡ names_text names table ++ 10 ∷ []
unfolding names_line names_text
names-newline names table = refl

-- and a form
form-newline : (names : List ℕ) (f : Form) → form_line names f ≡ form_text names f ++ 10 ∷ []
unfolding form_line form_text
form-newline names f = refl

-- the lines behind the first form
steps_and_last : (names : List ℕ) (steps : List Step) (last : Form) → List ℕ
steps_and_last names steps last = step_lines names steps (form_text names last ++ 10 ∷ [])

-- those behind the names
forms_and_steps : (names : List ℕ) (first : Form) (steps : List Step) (last : Form) → List ℕ
forms_and_steps names first steps last = form_text names first ++ 10 ∷ steps_and_last names steps last

-- the text of a log, line by line
text_lines : (names table : List ℕ) (first : Form) (steps : List Step) (last : Form)
    → log_text names table first steps last ≡ names_text names table ++ 10 ∷ forms_and_steps names first steps last
unfolding log_text forms_and_steps steps_and_last
text_lines names table first steps last = simp (names-newline, form-newline, append_assoc, steps-lines)

-- ════ read again

-- the line at a place
line_at : (k : ℕ) (xs l : List ℕ) → OneLine xs → line_of (k, xs ++ 10 ∷ l) ≡ xs
line_at k xs l h = first_line_lem xs l h

-- where the next begins
line_next : (k : ℕ) (xs l : List ℕ) → OneLine xs → Begins l → to_line (next_line (k, xs ++ 10 ∷ l)) ≡ (k + 1, l)
line_next k xs l h b = ap (λ (r : List ℕ). to_line (k + 1, r)) (behind_line_lem xs l h) ∙ line_stays (k + 1) l b

-- letters of steps that pass their test
abbrev pub StepsTested : (table : List ℕ) → List Step → Type 0
StepsTested table ss = All (λ (s : Step). test_step_letters table s ≡ given tt) ss

-- what the text of a log says
abbrev pub read_of : (names table : List ℕ) (first : Form) (steps : List Step) (last : Form) → LogRead
read_of names table first steps last = record { names = names; table = table; first = first; steps = steps; last = last }

-- a line that declares names
names-turn : (most : ℕ) (p : Place) (n m : Named) → 1 ≤ most → is_declaration (line_of p) ≡ true → declared (line_of p) n ≡ placed m
    → read_declared most p n ≡ read_declared (pred most) (to_line (next_line p)) m
unfolding read_declared in_line
names-turn zero p n m c i e = absurd (omega arith)
names-turn (suc most) p n m c i e = rw (i, e) refl

-- one that does not
names-stop : (most : ℕ) (p : Place) (n : Named) → is_declaration (line_of p) ≡ false → read_declared most p n ≡ lined (n, p)
unfolding read_declared
names-stop zero p n i = refl
names-stop (suc most) p n i = rw i

module _ (names table : List ℕ) where
  -- a line that is a step
  step-turn : (most : ℕ) (p : Place) (before : List Step) (s : Step) → is_step_line (line_of p) ≡ true → read_step_line names table (line_of p) ≡ placed s
      → read_step_lines (suc most) names table p before ≡ read_step_lines most names table (to_line (next_line p)) (before ++ s ∷ [])
  unfolding read_step_lines in_line
  step-turn most p before s i e = rw (i, e) refl

  -- one that is none
  steps-stop : (most : ℕ) (p : Place) (before : List Step) → is_step_line (line_of p) ≡ false → read_step_lines most names table p before ≡ lined (before, p)
  unfolding read_step_lines
  steps-stop zero p before i = rw i
  steps-stop (suc most) p before i = rw i

  -- the lines behind the names
  parts_read : (p q : Place) (first last : Form) (steps : List Step) → read_form_line names table (line_of p) ≡ placed first
      → read_step_lines 64 names table (to_line (next_line p)) [] ≡ lined (steps, q) → read_form_line names table (line_of q) ≡ placed last
      → at_end (to_line (next_line q)) ≡ true
      → read_log_lines names table p ≡ lined (read_of names table first steps last)
  unfolding read_log_lines in_line nothing_left
  parts_read p q first last steps a b c d = rw (a, b, c, d) refl

  -- the names and the lines behind them
  whole_read : (s : List ℕ) (p : Place) (log : LogRead) → read_declared (length s) (to_line (1, s)) ([], []) ≡ lined ((names, table), p) → 1 ≤ length names
      → read_log_lines names table p ≡ lined log → read_log_text s ≡ lined log
  unfolding read_log_text read_header some_names
  whole_read s p log a b c = rw (a, le-leb 1 (length names) b) c

-- what stands behind steps begins a line
lines-begin : (names : List ℕ) (ss : List Step) (l : List ℕ) → StepsInShape ss → Begins l → Begins (step_lines names ss l)
unfolding step_lines
lines-begin names [] l h b = b
lines-begin names (s ∷ ss) l h b = step-begins names s h.0 (10 ∷ step_lines names ss l)

module _ (names table : List ℕ) (good : T (good_names names table)) where
  -- steps are read, and the line behind them is reached
  steps-read_back : (ss : List Step) (most k : ℕ) (before : List Step) (l : List ℕ) → StepsInShape ss → StepsTested table ss → length ss ≤ most
      → Begins l → is_step_line (line_of (k, l)) ≡ false
      → (j : ℕ) × (read_step_lines most names table (k, step_lines names ss l) before ≡ lined (before ++ ss, (j, l)))
  unfolding step_lines
  steps-read_back [] most k before l h t c b n =
      (k, steps-stop names table most (k, l) before n ∙ ap (λ (ss : List Step). lined (ss, (k, l))) (sym (append-nil before)))
  steps-read_back (s ∷ ss) zero k before l h t c b n = absurd (omega arith)
  steps-read_back (s ∷ ss) (suc most) k before l h t c b n =
      let text = step_text names s in
      let rest = step_lines names ss l in
      let o = step-one_line names s (good_line names table good) in
      let w = steps-read_back ss most (k + 1) (before ++ s ∷ []) l h.1 t.1 (omega arith) b n in (
        w.0,
        step-turn names table most (k, text ++ 10 ∷ rest) before s
            (ap is_step_line (line_at k text rest o) ∙ step_is names s h.0)
            (ap (read_step_line names table) (line_at k text rest o) ∙ step-read_back names table good s h.0 t.0)
            ∙ ap (λ (p : Place). read_step_lines most names table p (before ++ s ∷ [])) (line_next k text rest o (lines-begin names ss l h.1 b))
            ∙ w.1
            ∙ ap (λ (us : List Step). lined (us, (w.0, l))) (append_snoc before s ss),
      )

-- a log in shape with letters of the table
pub record LogWritable (table : List ℕ) (first : Form) (steps : List Step) (last : Form) : Type 0 where
  pub in_shape : LogInShape first steps last
  pub first_known : AllKnown table first.terms
  pub steps_tested : StepsTested table steps
  pub last_known : AllKnown table last.terms

module _ (names table : List ℕ) (good : T (good_names names table)) where
  -- the line of a form has no newline
  one_line : (f : Form) → OneLine (form_text names f)
  one_line f = form-one_line names f (good_line names table good)

  -- a form at a place
  form-at : (k : ℕ) (f : Form) (l : List ℕ) → FormInShape f → AllKnown table f.terms
      → read_form_line names table (line_of (k, form_text names f ++ 10 ∷ l)) ≡ placed f
  form-at k f l s known = ap (read_form_line names table) (line_at k (form_text names f) l (one_line f)) ∙ form-read_back names table good f s known

  -- the names in front of lines of which the first is a form
  header_read : (t : T (good_table table)) (first : Form) (l : List ℕ)
      → let s = names_text names table ++ 10 ∷ (form_text names first ++ 10 ∷ l) in
      read_declared (length s) (to_line (1, s)) ([], []) ≡ lined ((names, table), (2, form_text names first ++ 10 ∷ l))
  header_read t first l =
      let text = names_text names table in
      let rest = form_text names first ++ 10 ∷ l in
      let o = names_line_lem names table t good in
      let most = length (text ++ 10 ∷ rest) in
      ap (λ (p : Place). read_declared most p ([], [])) (line_stays 1 (text ++ 10 ∷ rest) (names-begin names table t good rest))
      ∙ names-turn most (1, text ++ 10 ∷ rest) ([], []) (names, table) (omega (arith, length-append text (10 ∷ rest)))
      (ap is_declaration (line_at 1 text rest o) ∙ names_declare names table t good)
      (ap (λ (k : List ℕ). declared k ([], [])) (line_at 1 text rest o) ∙ names-read_back names table t good)
      ∙ ap (λ (p : Place). read_declared (pred most) p (names, table)) (line_next 1 text rest o (form-begins names first (10 ∷ l)))
      ∙ names-stop (pred most) (2, rest) (names, table)
      (ap is_declaration (line_at 2 (form_text names first) l (one_line first)) ∙ form-declares_none names first)

  -- the forms and the steps behind them
  parts-read_back : (first : Form) (steps : List Step) (last : Form) → LogWritable table first steps last
      → read_log_lines names table (2, forms_and_steps names first steps last) ≡ lined (read_of names table first steps last)
  unfolding forms_and_steps steps_and_last at_end
  parts-read_back first steps last w =
      let ends = form_text names last ++ 10 ∷ [] in
      let rest = steps_and_last names steps last in
      let b : Begins ends = form-begins names last (10 ∷ []) in
      let r = steps-read_back names table good steps 64 3 [] ends w.in_shape.every_step w.steps_tested w.in_shape.step_count b
      (ap is_step_line (line_at 3 (form_text names last) [] (one_line last)) ∙ form-no_step names last) in
      parts_read names table (2, form_text names first ++ 10 ∷ rest) (r.0, ends) first last steps
      (form-at 2 first rest w.in_shape.first_form w.first_known)
      (ap (λ (p : Place). read_step_lines 64 names table p [])
      (line_next 2 (form_text names first) rest (one_line first) (lines-begin names steps ends w.in_shape.every_step b)) ∙ r.1)
      (form-at r.0 last [] w.in_shape.last_form w.last_known)
      (ap at_end (line_next r.0 (form_text names last) [] (one_line last) (record { no_newline = refl; no_blank = refl })))

module _ (names table : List ℕ) (t : T (good_table table)) (good : T (good_names names table)) (first : Form) (steps : List Step) (last : Form)
    (w : LogWritable table first steps last) where
  -- the text of a log is read to the names, the table, the forms and the steps
  pub log-read_back : read_log_text (log_text names table first steps last) ≡ lined (read_of names table first steps last)
  unfolding forms_and_steps
  log-read_back =
      ap read_log_text (text_lines names table first steps last)
      ∙ whole_read names table (names_text names table ++ 10 ∷ forms_and_steps names first steps last) (2, forms_and_steps names first steps last)
      (read_of names table first steps last) (header_read names table good t first (steps_and_last names steps last)) (names_some names table t good)
      (parts-read_back names table good first steps last w)

  -- so its bytes are those of the log
  pub log_text-bytes : (read_log_text (log_text names table first steps last) >>> λ l. lined (log_bytes_of l)) ≡ lined (write_log first steps last)
  unfolding log_bytes_of
  log_text-bytes = rw log-read_back refl

  -- and a text that was written is written again
  pub log_text-again : (s : List ℕ) → s ≡ log_text names table first steps last
      → (read_log_text s >>> λ l. lined (log_text l.names l.table l.first l.steps l.last)) ≡ lined s
  log_text-again s e = rw (e, log-read_back) refl

-- ════ logs that were read from bytes

-- the letters of steps, each step by itself
pub steps_tested_lem : (table : List ℕ) (ss : List Step) → test_steps table ss ≡ given tt → StepsTested table ss
unfolding test_steps
steps_tested_lem table [] e = tt
steps_tested_lem table (s ∷ ss) e = let w = tested (test_step_letters table s) (test_steps table ss) tt e in (w.0, steps_tested_lem table ss w.1)

-- the log of a derivation can be written as text
pub derivation-writable : (table : List ℕ) (first : Form) (steps : List Step) (last : Form) → Derives table first steps last
    → LogWritable table first steps last
derivation-writable table first steps last d = record {
  in_shape = d.in_shape;
  first_known = terms_known table first.terms d.first_tested;
  steps_tested = steps_tested_lem table steps d.steps_tested;
  last_known = terms_known table last.terms d.last_tested;
}

module _ (names table s : List ℕ) (t : T (good_table table)) (good : T (good_names names table)) (bs : Bytes s) where
  -- bytes that are read as a log with letters of the table, printed as text and read again, are the same bytes
  pub bytes-text_bytes : (log : Log) → read_log s ≡ given log → test_terms table log.first.terms ≡ given tt → StepsTested table log.steps
      → test_terms table log.last.terms ≡ given tt
      → (read_log_text (log_text names table log.first log.steps log.last) >>> λ l. lined (log_bytes_of l)) ≡ lined s
  bytes-text_bytes log e f g h =
      let o = log_one_record s log bs e in
      log_text-bytes names table t good log.first log.steps log.last
      (record {
        in_shape = o.in_shape;
        first_known = terms_known table log.first.terms f;
        steps_tested = g;
        last_known = terms_known table log.last.terms h;
      })
      ∙ ap lined (sym o.is_written)

-- so it is with bytes that the checker accepts
pub accepted-text_bytes : (names table s : List ℕ) (a b n : ℕ) → T (good_names names table) → (d : Accepted table s a b n)
    → (read_log_text (log_text names table d.first d.steps d.last) >>> λ l. lined (log_bytes_of l)) ≡ lined s
accepted-text_bytes names table s a b n good d =
    log_text-bytes names table d.derives.table_good good d.first d.steps d.last
    (derivation-writable table d.first d.steps d.last d.derives)
    ∙ ap lined (sym d.is_written)
