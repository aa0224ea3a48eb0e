-- Two forms that can be compared. Assumes nothing.
use Rattle.std.specs.Prelude.{◌≡◌, Bool, true, false, List, ℕ}
use Rattle.specification.specs.Results.{given}
use Rattle.specification.specs.Records.{test_terms}
use Rattle.specification.specs.Decision.{Decision, holds, differs, undecided}
use Rattle.terms.specs.declared.types.Form.{Form}
use Rattle.terms.specs.Abstraction.{form_of}
use Rattle.terms.specs.Valid.{FormValid}
use Rattle.formula_lines.specs.Tables.{GoodTable}

-- a decision says that two forms differ
unfoldable pub is_differs : Decision → Bool
is_differs holds = false
is_differs differs = true
is_differs (undecided n) = false

-- two valid forms of one kind with letters of a good table
pub record Comparable (names table : List ℕ) (f g : Form) : Type 0 where
  pub good : GoodTable names table
  pub valid_first : FormValid f
  pub valid_second : FormValid g
  pub kinds : f.kind ≡ g.kind
  pub tested_first : test_terms table (form_of f).terms ≡ given tt
  pub tested_second : test_terms table (form_of g).terms ≡ given tt
