-- The line that is printed, case by case. Assumes nothing.
use mathlib.Core.Path.{◌≡◌, ap, sym, subst, ◌∙◌}
use mathlib.Core.Bool.{Bool, true, false}
use mathlib.Core.List.{List}
use Prim.Native.Nat.{ℕ, ◌+◌, ◌-◌, ◌≤◌, ◌<◌}
use native.Mathlib.Omega.{arith}
use borrow.Author.Tests.{le-leb, lt-leb}
use lib.Dec.{T, leb}
use lib.ListN.{length, get_or, take, drop, length-drop}
use lib.Seq.{take_all}
use Rattle.specification.specs.Results.{Result, Test, refused, given, ◌>>◌, when◌then◌else◌}
use Rattle.specification.specs.Letters.{good_table, test_table}
use Rattle.specification.specs.Records.{write_into}
use Rattle.specification.specs.Reduction.{reduced}
use Rattle.specification.specs.Printing.{alphabet, print_tested, print_result, print_call, TextWritten, print_answer, line_bytes}
use Rattle.theory.specs.Tests.{tested, given_same, refused≢given}
use Rattle.theory.specs.Shape.Letters.{table_good_lem, good_short}
use Rattle.theory.proofs.Reduction.Work.{reduction_keeps_value}
use Rattle.terms.specs.Abstraction.{form_of}
use Rattle.terms.specs.declared.types.Form.{Form}
use Rattle.terms.specs.Valid.{Gives}
use Rattle.terms.proofs.Outcomes.{refuses, works_as, worked_given}
use Rattle.symbols.specs.Printable.{Printable}
use Rattle.symbols.specs.Text.{print_line}
use Rattle.printing.proofs.Named.{printable}
use Rattle.records.proofs.Inside.{written_inside}
use Rattle.std.specs.Prelude.{Ok, Err}
use Rattle.std.specs.Prelude as Std
use Rattle.refusal.specs.declared.Refusal.{Refusal}
use Rattle.refusal.specs.declared.Refusal.TheVariants.{BadTable}
use Rattle.refusal.specs.Numbers.{number_of}
use Rattle.refusal.specs.Tests.{test_of}
use Rattle.printer_call.specs.Answers.{length_of}
use Rattle.printer_call.specs.Lines.{table_reduced, print_reduced}

-- the same text in other words
written_as_lem : (before after : List ℕ) (n : ℕ) (x y : List ℕ) → x ≡ y → TextWritten before after n x → TextWritten before after n y
written_as_lem before after n x y e w = subst (TextWritten before after n) e w

-- ════ a table and an expression

module _ (table expr : List ℕ) where
  -- the table is refused
  pub table_refused : (e : Refusal) → test_of (Err e) ≡ test_table table → Gives (table_reduced table expr) (Err e)
  unfolding table_reduced
  table_refused e h = refuses (table_reduced table expr) e (ap (λ (t : Test). t >> reduced table expr) (sym h))

  -- the expression decides
  pub expression-decides : (u : Unit {0}) (r : Std.Result Form Refusal) → test_of (Ok u) ≡ test_table table → Gives (reduced table expr) r → Gives (table_reduced table expr) r
  unfolding table_reduced
  expression-decides u r h worked = works_as (reduced table expr) (table_reduced table expr) r (ap (λ (t : Test). t >> reduced table expr) h) worked

  module _ (f : Form) (worked : Gives (table_reduced table expr) (Ok f)) where
    -- the form can be printed
    pub form-printable : Printable alphabet f
    unfolding table_reduced
    form-printable =
        let e = tested (test_table table) (reduced table expr) (form_of f) (worked_given (table_reduced table expr) f worked) in
        let t : T (good_table table) = table_good_lem table e.0 in
        printable table alphabet (good_short table t) f worked.valid (reduction_keeps_value table expr (form_of f) t e.1).letters_tested

    -- its line
    pub form-printed : (before after : List ℕ) (m : ℕ) → TextWritten before after m (print_line alphabet (form_of f))
        → TextWritten before after m (print_reduced table expr)
    unfolding print_reduced print_result
    form-printed before after m w = written_as_lem before after m _ _ (ap print_result worked.is) w

  -- the line of a refusal
  pub refusal-printed : (e : Refusal) → Gives (table_reduced table expr) (Err e) → (before after : List ℕ) (m n : ℕ) → n ≡ number_of e
      → TextWritten before after m (print_result (refused n)) → TextWritten before after m (print_reduced table expr)
  unfolding print_reduced
  refusal-printed e worked before after m n z w = written_as_lem before after m _ _ (ap (λ (k : ℕ). print_result (refused k)) z ∙ ap print_result worked.is) w

-- ════ all that was read

module _ (s : List ℕ) where
  -- the length byte is missing
  pub none_tested : length s ≡ 0 → print_tested s ≡ refused 1
  unfolding print_tested
  none_tested e = let h : length s < 1 = omega arith in rw (lt-leb 1 (length s) h)

  -- the table is cut
  pub cut_tested : (length s ≡ 0 → ⊥) → length s < get_or s 0 0 + 1 → print_tested s ≡ refused 1
  unfolding print_tested
  cut_tested n l = let h : 1 ≤ length s = omega arith in rw (le-leb 1 (length s) h, lt-leb (get_or s 0 0 + 1) (length s) l)

  -- a table stands there whole
  pub whole_tested : get_or s 0 0 + 1 ≤ length s → print_tested s ≡ table_reduced (take (get_or s 0 0) (drop 1 s)) (drop (get_or s 0 0 + 1) s)
  unfolding print_tested table_reduced
  whole_tested l = let h : 1 ≤ length s = omega arith in rw (le-leb 1 (length s) h, le-leb (get_or s 0 0 + 1) (length s) l)

  -- table and expression as parts of it
  pub parts_tested : get_or s 0 0 + 1 ≤ length s → print_tested s ≡ table_reduced (take (get_or s 0 0 + 1 - 1) (drop 1 s)) (take (length s - (get_or s 0 0 + 1))
      (drop (get_or s 0 0 + 1) s))
  parts_tested l = whole_tested l ∙ (λ i. table_reduced (take (e i) (drop 1 s)) (rest i))
    where
      e : get_or s 0 0 ≡ get_or s 0 0 + 1 - 1
      e = omega arith

      rest : drop (get_or s 0 0 + 1) s ≡ take (length s - (get_or s 0 0 + 1)) (drop (get_or s 0 0 + 1) s)
      rest = let n : length (drop (get_or s 0 0 + 1) s) ≤ length s - (get_or s 0 0 + 1) = omega (arith, length-drop (get_or s 0 0 + 1) s) in
          sym (take_all _ (drop (get_or s 0 0 + 1) s) n)

  module _ (before after : List ℕ) (m : ℕ) where
    -- the line where the length byte is missing
    pub nothing_there : length s ≡ 0 → (n : ℕ) → n ≡ number_of BadTable → TextWritten before after m (print_result (refused n)) → TextWritten before after m (print_call s)
    unfolding print_call
    nothing_there e n z w = written_as_lem before after m _ _ (ap (λ (k : ℕ). print_result (refused k)) z ∙ ap print_result (sym (none_tested e))) w

    -- where the table is cut
    pub table-cut : (length s ≡ 0 → ⊥) → length s < get_or s 0 0 + 1 → (k : ℕ) → k ≡ number_of BadTable → TextWritten before after m (print_result (refused k))
        → TextWritten before after m (print_call s)
    unfolding print_call
    table-cut n l k z w = written_as_lem before after m _ _ (ap (λ (j : ℕ). print_result (refused j)) z ∙ ap print_result (sym (cut_tested n l))) w

    -- of a table and an expression
    pub parts-printed : get_or s 0 0 + 1 ≤ length s
        → TextWritten before after m (print_reduced (take (get_or s 0 0 + 1 - 1) (drop 1 s)) (take (length s - (get_or s 0 0 + 1)) (drop (get_or s 0 0 + 1) s)))
        → TextWritten before after m (print_call s)
    unfolding print_call print_reduced
    parts-printed l w = written_as_lem before after m _ _ (ap print_result (sym (parts_tested l))) w

-- ════ the answer

-- memory that is too short
pub answer_refused : (s memory : List ℕ) → length memory < line_bytes → ◌≡◌ {A = Result ℕ × List ℕ} (refused 2, memory) (print_answer s memory)
unfolding print_answer
answer_refused s memory h = sym (rw (lt-leb line_bytes (length memory) h))

-- the text
pub answer-printed : (s memory memory' : List ℕ) (n : ℕ) → line_bytes ≤ length memory → TextWritten memory memory' n (print_call s)
    → ◌≡◌ {A = Result ℕ × List ℕ} (given n, memory') (print_answer s memory)
unfolding print_answer
answer-printed s memory memory' n h w = rw (le-leb line_bytes (length memory) h) (λ i. (given (w.ends i), w.bytes i))

-- a text that was printed lies inside the memory lent
pub printed-inside : (s before after : List ℕ) (r : Std.Result ℕ Refusal) (m : ℕ) → ◌≡◌ {A = Result ℕ × List ℕ} (length_of r, after) (print_answer s before)
    → r ≡ Ok m → m ≤ length after
unfolding print_answer
printed-inside s before after r m e h = go (leb line_bytes (length before)) ((λ i. (length_of (sym h i), after)) ∙ e)
  where
    go : (b : Bool) → ◌≡◌ {A = Result ℕ × List ℕ} (given m, after) (when b then (given (length (print_call s)), write_into (print_call s) before) else (
      refused 2,
      before,
    )) → m ≤ length after
    go true q = written_inside (print_call s) before after m (given_same (ap (λ (p : Result ℕ × List ℕ). p.0) q)) (ap (λ (p : Result ℕ × List ℕ). p.1) q)
    go false q = absurd (refused≢given (sym (ap (λ (p : Result ℕ × List ℕ). p.0) q)))
