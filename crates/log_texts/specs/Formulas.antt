-- The formula of a line. Assumes nothing.
use Rattle.std.specs.Prelude.{◌≡◌, IfOk, List, ℕ, drop}
use Rattle.std.specs.Prelude as Std
use Rattle.specification.specs.Terms as S
use Rattle.specification.specs.Text.{Placed, ◌>>=◌, text_form}
use Rattle.specification.specs.Rules as R
use Rattle.specification.specs.LogTexts.{from, one_term}
use Rattle.terms.specs.Abstraction.{term_of}
use Rattle.terms.specs.Valid.{TermValid}
use Rattle.terms.specs.declared.types.Term.{Term}
use Rattle.texts.specs.declared.Unread.{Unread}
use Rattle.texts.specs.Readings.{placed_of}

-- the one term, or the refusal at its column
pub record OneTerm (x : Placed S.Term) (r : Std.Result Term Unread) : Type 0 where
  pub is : x ≡ placed_of term_of r
  pub valid : IfOk r TermValid

-- M from a position on, and what follows
unfoldable pub behind_mark : (names table line : List ℕ) (at : ℕ) (rest : S.Term → Placed R.Step) → Placed R.Step
behind_mark names table line at rest = from at (text_form names table (drop at line)) >>= λ f. one_term at f >>= rest

-- M, or the refusal at its column
pub record MultiplierRead (names table line : List ℕ) (at : ℕ) (r : Std.Result Term Unread) : Type 0 where
  pub is : (rest : S.Term → Placed R.Step) → behind_mark names table line at rest ≡ (placed_of term_of r >>= rest)
  pub valid : IfOk r TermValid
