-- Where names are as many as the letters of a table or more, steps whose letters are in it can be printed. Assumes nothing.
use mathlib.Core.Path.{◌≡◌}
use mathlib.Core.List.{List, [], ◌∷◌, map}
use Prim.Native.Nat.{ℕ, ◌≤◌}
use lib.ListN.{length, take}
use Rattle.specification.specs.Results.{given}
use Rattle.specification.specs.Letters.{vector, test_letters}
use Rattle.specification.specs.Records.{test_term}
use Rattle.specification.specs.Rules.{test_step_letters}
use Rattle.theory.specs.Tests.{tested}
use Rattle.theory.specs.Elements.{All}
use Rattle.theory.specs.Shape.Letters.{letters_known, term_known}
use Rattle.theory.proofs.Replay.Accepted.{test_steps}
use Rattle.terms.specs.Abstraction.{term_of}
use Rattle.rules.specs.declared.steps.Step.{Step}
use Rattle.rules.specs.Steps.{step_of, StepValid}
use Rattle.logs.specs.declared.steps.Steps.{Steps}
use Rattle.logs.specs.Steps.{steps_of, StepsValid}
use Rattle.printing.proofs.Named.{letters-named, term-named}
use Rattle.log_lines.specs.Printed.{StepPrintable, StepsPrintable}

module _ (table names : List ℕ) (many : length table ≤ length names) where
  each-printable : (ss : List Step) → All StepValid ss → test_steps table (map step_of ss) ≡ given tt → All (StepPrintable names) ss
  unfolding test_steps test_step_letters step_of
  each-printable [] v e = tt
  each-printable (s ∷ ss) v e =
      let w = tested (test_step_letters table (step_of s)) (test_steps table (map step_of ss)) tt e in
      let u = tested (test_letters table vector (step_of s).letters) (test_term table (term_of s.m)) tt w.0 in (
        record {
          valid = v.0;
          letters = letters-named table names many vector (step_of s).letters (letters_known table vector (step_of s).letters u.0);
          m = term-named table names many s.m (term_known table (term_of s.m) u.1);
        },
        each-printable ss v.1 w.1,
      )

  -- steps in shape whose letters passed their test
  pub steps-printable : (q : Steps) → StepsValid q → test_steps table (steps_of q) ≡ given tt → StepsPrintable names q
  unfolding steps_of
  steps-printable q v e = record { valid = v; steps = each-printable (take q.count q.steps) v.steps e }
