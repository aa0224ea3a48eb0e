-- What is printed for what was read, case by case. Assumes nothing.
use mathlib.Core.Path.{◌≡◌, refl, ap, sym, subst, ◌∙◌}
use mathlib.Core.Bool.{Bool, true, false}
use mathlib.Core.List.{List, ◌++◌}
use Prim.Native.Nat.{ℕ, ◌+◌, ◌-◌, ◌≤◌, ◌<◌}
use native.Mathlib.Omega.{arith}
use borrow.Author.Tests.{le-leb, lt-leb}
use lib.Dec.{T, leb}
use lib.ListN.{length, get_or, take, drop}
use Rattle.specification.specs.Results.{Result, refused, given}
use Rattle.specification.specs.Letters.{good_table, test_table}
use Rattle.specification.specs.Terms as S
use Rattle.specification.specs.Records.{test_terms}
use Rattle.specification.specs.Reduction.{reduced}
use Rattle.specification.specs.Shortening.{Shortens}
use Rattle.specification.specs.Printing.{alphabet, input_table, print_tested, print_result, print_steps, print_log}
use Rattle.specification.specs.Printing.{lines_bytes, TextWritten, PrintedBy, LinesPrintedBy, LinesPrinted}
use Rattle.theory.specs.Tests.{tested}
use Rattle.theory.specs.Shape.Letters.{table_good_lem, good_short}
use Rattle.theory.proofs.Reduction.Work.{reduction_keeps_value}
use Rattle.theory.proofs.Records.Logs.{log_of}
use Rattle.theory.proofs.Replay.Accepted.{Derives}
use Rattle.terms.specs.Abstraction.{form_of}
use Rattle.terms.specs.declared.types.Form.{Form}
use Rattle.terms.specs.Valid.{Gives}
use Rattle.records.proofs.Inside.{written_inside}
use Rattle.logs.specs.Steps.{steps_of}
use Rattle.shortening.specs.declared.rounds.Derivation.{Derivation}
use Rattle.shortening.specs.Derived.{Derived}
use Rattle.shortening.proofs.Shortens.{steps-derive, steps-shorten}
use Rattle.symbols.specs.Printable.{Printable}
use Rattle.symbols.specs.Text.{print_line}
use Rattle.printing.proofs.Named.{printable}
use Rattle.std.specs.Prelude.{Ok, Err}
use Rattle.std.specs.Prelude as Std
use Rattle.refusal.specs.declared.Refusal.{Refusal}
use Rattle.refusal.specs.declared.Refusal.TheVariants.{BadTable}
use Rattle.refusal.specs.Numbers.{number_of}
use Rattle.printer_call.specs.Answers.{length_of}
use Rattle.printer_call.specs.Lines.{table_reduced}
use Rattle.printer_call.proofs.Answers.{none_tested, cut_tested, parts_tested}
use Rattle.log_lines.specs.Printed.{StepsPrintable}
use Rattle.log_lines.proofs.Named.{steps-printable}

-- ════ a table and an expression

module _ (table expr : List ℕ) where
  -- the refusal is printed
  pub refusal-printed : (e : Refusal) → Gives (table_reduced table expr) (Err e) → (before after : List ℕ) (m n : ℕ) → n ≡ number_of e
      → TextWritten before after m (print_result (refused n)) → PrintedBy (table_reduced table expr) table before after m
  unfolding PrintedBy
  refusal-printed e worked before after m n q w =
      subst (λ (r : Result S.Form). PrintedBy r table before after m) (ap refused q ∙ worked.is) w

  module _ (f : Form) (worked : Gives (table_reduced table expr) (Ok f)) where
    passed : (test_table table ≡ given tt) × (reduced table expr ≡ given (form_of f))
    unfolding table_reduced
    passed = tested (test_table table) (reduced table expr) (form_of f) (sym worked.is)

    good : T (good_table table)
    good = table_good_lem table passed.0

    letters_tested : test_terms table (form_of f).terms ≡ given tt
    letters_tested = (reduction_keeps_value table expr (form_of f) good passed.1).letters_tested

    module _ (d : Derivation) (wd : Derived table f d) where
      derives : Derives table (form_of f) (steps_of d.steps) (form_of d.last)
      derives = steps-derive table good f worked.valid letters_tested d wd

      -- form, steps and last form can be printed
      pub log-printable : Printable alphabet f × StepsPrintable alphabet d.steps × Printable alphabet d.last
      log-printable =
          let many = good_short table good in (
            printable table alphabet many f worked.valid derives.first_tested,
            steps-printable table alphabet many d.steps wd.valid.steps derives.steps_tested,
            printable table alphabet many d.last wd.valid.last derives.last_tested,
          )

      -- the log is printed
      pub log-printed : (before after : List ℕ) (m : ℕ) → length f.terms ≡ 48 → length d.last.terms ≡ 48
          → TextWritten before after m
          (print_line alphabet (form_of f) ++ print_steps alphabet (steps_of d.steps) ++ print_line alphabet (form_of d.last))
          → PrintedBy (table_reduced table expr) table before after m
      unfolding PrintedBy print_log print_result
      log-printed before after m places rooms w =
          subst (λ (r : Result S.Form). PrintedBy r table before after m) worked.is
          (record {
            log = log_of (form_of f) (steps_of d.steps) (form_of d.last);
            shortens = steps-shorten table good f worked.valid letters_tested d wd places rooms;
            text = w;
          })

-- ════ all that was read

module _ (s before after : List ℕ) (m : ℕ) where
  by_tests : (r : Result S.Form) → print_tested s ≡ r → PrintedBy r (input_table s) before after m → PrintedBy (print_tested s) (input_table s) before after m
  by_tests r e w = rw e w

  -- the length byte is missing
  pub nothing_there : length s ≡ 0 → (n : ℕ) → n ≡ number_of BadTable → TextWritten before after m (print_result (refused n)) → PrintedBy (print_tested s) (input_table s) before after m
  unfolding PrintedBy
  nothing_there e n q w = by_tests (refused n) (none_tested s e ∙ ap refused (sym q)) w

  -- the table is cut
  pub table-cut : (length s ≡ 0 → ⊥) → length s < get_or s 0 0 + 1 → (k : ℕ) → k ≡ number_of BadTable → TextWritten before after m (print_result (refused k))
      → PrintedBy (print_tested s) (input_table s) before after m
  unfolding PrintedBy
  table-cut n l k q w = by_tests (refused k) (cut_tested s n l ∙ ap refused (sym q)) w

  -- the table and the expression as parts of it
  pub parts-printed : get_or s 0 0 + 1 ≤ length s
      → PrintedBy (table_reduced (take (get_or s 0 0 + 1 - 1) (drop 1 s)) (take (length s - (get_or s 0 0 + 1)) (drop (get_or s 0 0 + 1) s)))
      (take (get_or s 0 0 + 1 - 1) (drop 1 s)) before after m
      → PrintedBy (print_tested s) (input_table s) before after m
  parts-printed l w =
      let e : get_or s 0 0 + 1 - 1 ≡ get_or s 0 0 = omega arith in
      by_tests _ (parts_tested s l)
      (subst (λ (k : ℕ). PrintedBy (table_reduced (take (get_or s 0 0 + 1 - 1) (drop 1 s)) (take (length s - (get_or s 0 0 + 1)) (drop (get_or s 0 0 + 1) s)))
      (take k (drop 1 s)) before after m) e w)

-- ════ the answer

-- memory that is too short
pub answer_refused : (s before : List ℕ) → length before < lines_bytes → LinesPrinted s before (refused 2) before
unfolding LinesPrinted LinesPrintedBy
answer_refused s before h = rw (lt-leb lines_bytes (length before) h) (refl, refl)

-- the text
pub answer-printed : (s before after : List ℕ) (m : ℕ) → lines_bytes ≤ length before → PrintedBy (print_tested s) (input_table s) before after m
    → LinesPrinted s before (given m) after
unfolding LinesPrinted LinesPrintedBy
answer-printed s before after m h w = rw (le-leb lines_bytes (length before) h) w

-- ════ what was written

inside-by : (r : Result S.Form) (table before after : List ℕ) (m : ℕ) → PrintedBy r table before after m → m ≤ length after
unfolding PrintedBy
inside-by (refused n) table before after m w = written_inside _ before after m w.ends w.bytes
inside-by (given f) table before after m w = written_inside _ before after m w.text.ends w.text.bytes

-- it lies inside the bytes lent
pub printed-inside : (s before after : List ℕ) (r : Std.Result ℕ Refusal) (m : ℕ) → LinesPrinted s before (length_of r) after → r ≡ Ok m → m ≤ length after
unfolding LinesPrinted
printed-inside s before after r m w h = go (leb lines_bytes (length before)) (subst (λ (a : Std.Result ℕ Refusal). LinesPrintedBy (leb lines_bytes (length before)) s before
    (length_of a) after) h w)
  where
    go : (b : Bool) → LinesPrintedBy b s before (given m) after → m ≤ length after
    go true w = unfold LinesPrintedBy in inside-by (print_tested s) (input_table s) before after m w
    go false w = unfold LinesPrintedBy in absurd w
