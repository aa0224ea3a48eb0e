-- What can be printed of steps with the names of letters given. Assumes nothing.
use Rattle.std.specs.Prelude.{List, ℕ, take}
use Rattle.specification.specs.Rules.{rule_letters}
use Rattle.theory.specs.Elements.{All}
use Rattle.terms.specs.Abstraction.{term_of}
use Rattle.rules.specs.declared.steps.Step.{Step}
use Rattle.rules.specs.Steps.{StepValid}
use Rattle.logs.specs.declared.steps.Steps.{Steps}
use Rattle.logs.specs.Steps.{StepsValid}
use Rattle.symbols.specs.Printable.{Printed, TermPrinted}

-- a step in shape whose letters have names
pub record StepPrintable (names : List ℕ) (s : Step) : Type 0 where
  pub valid : StepValid s
  pub letters : Printed names (take (rule_letters s.rule) s.letters)
  pub m : TermPrinted names (term_of s.m)

-- steps in shape whose letters have names
pub record StepsPrintable (names : List ℕ) (q : Steps) : Type 0 where
  pub valid : StepsValid q
  pub steps : All (StepPrintable names) (take q.count q.steps)
