-- What holds of two forms that passed every test, and of the answer then. Assumes nothing.
use Rattle.std.specs.Prelude.{◌≡◌, ◌⊎◌, List, ℕ, ◌≤◌, length}
use Rattle.specification.specs.Results.{given}
use Rattle.specification.specs.Records.{test_terms}
use Rattle.specification.specs.Decision as S
use Rattle.specification.specs.Decision.{buffer_bytes, work_bytes, DecidedBy}
use Rattle.terms.specs.declared.types.Form.{Form}
use Rattle.terms.specs.Abstraction.{form_of}
use Rattle.terms.specs.Valid.{FormValid}

-- how many components of forms of a kind are compared: one of scalar forms, three of vector forms
unfoldable pub Components : (kind m : ℕ) → Type 0
Components kind m = ((m ≡ 1) × (kind ≡ 0)) ⊎ (m ≡ 3)

-- two forms passed every test
pub record Decidable (table : List ℕ) (f g : Form) (buffer work : List ℕ) : Type 0 where
  pub letters : length table ≤ 24
  pub room : buffer_bytes ≤ length buffer
  pub work_room : work_bytes ≤ length work
  pub valid_first : FormValid f
  pub valid_second : FormValid g
  pub tested_first : test_terms table (form_of f).terms ≡ given tt
  pub tested_second : test_terms table (form_of g).terms ≡ given tt
  pub kinds : f.kind ≡ g.kind

-- what holds then of the answer and of the bytes lent
abbrev pub DecidedSo : (table : List ℕ) (f g : Form) (buffer work : List ℕ) (answer : S.Decision) (buffer' work' : List ℕ) → Type 0
DecidedSo table f g buffer work answer buffer' work' = DecidedBy (given (form_of f, form_of g)) table buffer work answer buffer' work'
