-- The two sides of a line. Assumes nothing.
use Rattle.std.specs.Prelude.{◌≡◌, IfOk, List, ℕ, ◌+◌, take, drop}
use Rattle.std.specs.Prelude as Std
use Rattle.specification.specs.Results.{given}
use Rattle.specification.specs.Terms as S
use Rattle.specification.specs.Records.{test_terms}
use Rattle.specification.specs.Text.{Placed, ◌>>=◌, text_form}
use Rattle.specification.specs.LogTexts.{from}
use Rattle.specification.specs.Commands.{paired}
use Rattle.terms.specs.declared.types.Form.{Form}
use Rattle.terms.specs.Abstraction.{form_of}
use Rattle.terms.specs.Valid.{FormValid}
use Rattle.texts.specs.declared.Unread.{Unread}
use Rattle.texts.specs.Readings.{placed_of}

-- two sides as the specification has them
abbrev pub sides_of : Form × Form → S.Form × S.Form
sides_of p = (form_of p.0, form_of p.1)

-- two valid forms of one kind with letters of the table, or the refusal at its column
pub record SidesRead (table : List ℕ) (x : Placed (S.Form × S.Form)) (r : Std.Result (Form × Form) Unread) : Type 0 where
  pub is : x ≡ placed_of sides_of r
  pub valid_first : IfOk r (λ p. FormValid p.0)
  pub valid_second : IfOk r (λ p. FormValid p.1)
  pub kinds : IfOk r (λ p. p.0.kind ≡ p.1.kind)
  pub tested_first : IfOk r (λ p. test_terms table (form_of p.0).terms ≡ given tt)
  pub tested_second : IfOk r (λ p. test_terms table (form_of p.1).terms ≡ given tt)

-- two forms put together, whatever table has their letters
abbrev pub Paired : (at : ℕ) (f g : Form) → Std.Result (Form × Form) Unread → Type 0
Paired at f g r =
    (table : List ℕ) → test_terms table (form_of f).terms ≡ given tt → test_terms table (form_of g).terms ≡ given tt
    → SidesRead table (paired at (form_of f) (form_of g)) r

-- the forms before and behind a sign
unfoldable pub both_sides : (names table line : List ℕ) (at : ℕ) → Placed (S.Form × S.Form)
both_sides names table line at =
    text_form names table (take at line) >>= λ f.
    from (at + 1) (text_form names table (drop (at + 1) line)) >>= λ g.
    paired at f g
