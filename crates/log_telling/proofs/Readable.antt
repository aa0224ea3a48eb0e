-- A log that was read as text can be told again: what `tell_log` asks holds of it. Assumes nothing.
use mathlib.Core.Path.{◌≡◌}
use mathlib.Core.List.{List, [], ◌∷◌, map}
use Prim.Native.Nat.{ℕ, ◌≤◌}
use native.Mathlib.Omega.{arith}
use lib.ListN.{length, take}
use Rattle.theory.specs.Elements.{All}
use Rattle.theory.specs.Shape.Letters.{term_known}
use Rattle.theory.specs.Text.Names.{names_count}
use Rattle.terms.specs.Abstraction.{term_of}
use Rattle.rules.specs.declared.steps.Step.{Step}
use Rattle.rules.specs.Steps.{step_of, StepValid}
use Rattle.logs.specs.Steps.{steps_of}
use Rattle.symbols.specs.Printable.{Printable}
use Rattle.printing.proofs.Named.{term-named, printable}
use Rattle.log_lines.specs.Printed.{StepPrintable, StepsPrintable}
use Rattle.std.specs.Prelude.{Ok}
use Rattle.log_texts.specs.declared.reading.LogText.{LogText}
use Rattle.log_texts.specs.Logs.{log_of, LogTextRead}
use Rattle.log_texts.proofs.Shape.{StepGood, LogGood, log_good}

-- good steps can be printed
each-printable : (table names : List ℕ) → length table ≤ length names → (ss : List Step) → All StepValid ss → All (StepGood names table) (map step_of ss)
    → All (StepPrintable names) ss
unfolding step_of
each-printable table names many [] v g = tt
each-printable table names many (s ∷ ss) v g = (
  record { valid = v.0; letters = g.0.named; m = term-named table names many s.m (term_known table (term_of s.m) g.0.tested) },
  each-printable table names many ss v.1 g.1,
)

-- what telling a log asks
pub record Tellable (names table : List ℕ) (r : LogText) : Type 0 where
  pub first : Printable names r.first
  pub steps : StepsPrintable names r.steps
  pub last : Printable names r.last
  pub fit : length names ≤ length table

-- a log that was read can be told
pub read_tellable : (s : List ℕ) (r : LogText) (names table : List ℕ) → LogTextRead s (Ok r) names table
    → Tellable (take r.count names) (take r.count table) r
unfolding steps_of
read_tellable s r names table h =
    let n = take r.count names in
    let t = take r.count table in
    let g : LogGood (log_of n t r) = log_good s (log_of n t r) h.is in
    let e : length n ≡ length t = names_count n t g.names_good in
    let many : length t ≤ length n = omega arith in
    record {
      first = printable t n many r.first h.first g.first.tested;
      steps = record { valid = h.steps; steps = each-printable t n many (take r.steps.count r.steps.steps) h.steps.steps g.steps };
      last = printable t n many r.last h.last g.last.tested;
      fit = omega arith;
    }
