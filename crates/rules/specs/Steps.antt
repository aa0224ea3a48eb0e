-- Steps as data. Assumes nothing.
use Rattle.std.specs.Prelude.{◌≡◌, ◌⊎◌, List, [], ℕ, ◌+◌, ◌*◌, T, leb, ℤ, nat_abs, length, take}
use Rattle.specification.specs.Results.{Test, given, ◌>>◌, require}
use Rattle.specification.specs.Terms.{vector_letters, gather_into}
use Rattle.specification.specs.Rules.{rule_letters, is_rule, step_kinds_fit, step_terms}
use Rattle.specification.specs.Rules as R
use Rattle.terms.specs.Abstraction.{term_of}
use Rattle.terms.specs.Valid.{TermValid}
use Rattle.rows.specs.Rows.{run_of, Run, Light}
use Rattle.rules.specs.declared.steps.Step.{Step}

-- a step, with as many letters as its rule has
unfoldable pub step_of : Step → R.Step
step_of s = record { rule = s.rule; letters = take (rule_letters s.rule) s.letters; m = term_of s.m }

-- a step in shape
pub record StepValid (s : Step) : Type 0 where
  pub rule : T (is_rule s.rule)
  pub m : TermValid s.m

-- "the kinds must agree", and 8 for M's and the rule's letters, at a form of a kind
unfoldable pub step_tests : (kind : ℕ) (s : R.Step) → Test
step_tests kind s = do
  require (step_kinds_fit (record { kind = kind; terms = [] }) s) 6
  require (leb (vector_letters s.m + rule_letters s.rule) 6) 8

-- a step that passes them at some kind of form
pub record StepFits (s : Step) : Type 0 where
  pub kind : ℕ
  pub passes : step_tests kind (step_of s) ≡ given tt

-- the terms of a step brought in among n rows: m rows
pub record StepBrought (n : ℕ) (rows : List (List ℕ)) (coefs : List ℤ) (s : Step) (m : ℕ) (rows' : List (List ℕ)) (coefs' : List ℤ) : Type 0 where
  pub is : run_of m rows' coefs' ≡ gather_into (run_of n rows coefs) (step_terms (step_of s))
  pub run : Run m rows' coefs'
  pub light : (b : ℕ) → Light b n coefs → Light (b + 7 * nat_abs s.m.coef) m coefs'
  pub six : length s.letters ≡ 6

-- what a refused step leaves in the rows: those from before it, or with its terms brought in; no coefficient is larger than b
pub record LeftBehind (n : ℕ) (rows : List (List ℕ)) (coefs : List ℤ) (s : Step) (b : ℕ) (rows' : List (List ℕ)) (coefs' : List ℤ) : Type 0 where
  pub count : ℕ
  pub is : (run_of count rows' coefs' ≡ run_of n rows coefs) ⊎ (run_of count rows' coefs' ≡ gather_into (run_of n rows coefs) (step_terms (step_of s)))
  pub light : Light b count coefs'
