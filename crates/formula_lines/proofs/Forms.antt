-- Names that were declared, and forms of lines. Assumes nothing.
use mathlib.Core.Path.{◌≡◌, refl, sym, ◌∙◌, ap}
use mathlib.Core.List.{List, []}
use Prim.Native.Nat.{ℕ, ◌<◌}
use native.Mathlib.Omega.{arith}
use lib.ListN.{length}
use Rattle.specification.specs.Results.{given}
use Rattle.specification.specs.Records.{test_terms}
use Rattle.specification.specs.Text.{refused_at, text_form}
use Rattle.specification.specs.Lines.{first_line, line_of}
use Rattle.specification.proofs.Computing.{computing}
use Rattle.specification.proofs.TextExamples.{computing_text}
use Rattle.theory.specs.Shape.Letters.{good_short}
use Rattle.theory.specs.Text.Names.{names_count}
use Rattle.theory.specs.Text.Columns.{refused≢placed}
use Rattle.theory.proofs.Text.Letters.{text-letters_tested}
use Rattle.terms.specs.Abstraction.{form_of}
use Rattle.lines.specs.declared.places.Place.{Place}
use Rattle.lines.specs.Places.{place_of}
use Rattle.lines.proofs.Ends.{inside_or}
use Rattle.terms.specs.declared.types.Form.{Form}
use Rattle.std.specs.Prelude.{Ok}
use Rattle.formula_call.specs.Texts.{TextGives}
use Rattle.formulas.specs.Readings.{Named}
use Rattle.symbols.specs.Printable.{Printable}
use Rattle.printing.proofs.Named.{printable}
use Rattle.formula_lines.specs.Tables.{GoodTable}

module _ (names table : List ℕ) (good : GoodTable names table) where
  -- names for letters of the table
  pub names-named : Named names table
  names-named = record { fit = omega (arith, names_count names table good.names_good); few = good_short table good.table_good }

  module _ (s : List ℕ) (f : Form) (g : TextGives (text_form names table s) (Ok f)) where
    -- the letters of the form of a text are in the table
    pub text_tested_lem : test_terms table (form_of f).terms ≡ given tt
    text_tested_lem =
        text-letters_tested names table s good.table_good (omega (arith, names_count names table good.names_good)) (form_of f)
        (sym g.is)

    -- it can be printed
    pub text-printable : Printable names f
    text-printable = printable table names (omega (arith, names_count names table good.names_good)) f g.valid text_tested_lem

-- nothing is no formula
no_text : (names table : List ℕ) → text_form names table (first_line []) ≡ refused_at 4 0
unfolding computing computing_text first_line
no_text names table = refl

-- a formula is in the text
pub text-inside : (s names table : List ℕ) (p : Place) (f : Form) → TextGives (text_form names table (line_of (place_of s p))) (Ok f) → p.at < length s
text-inside s names table p f h =
    inside_or s p.at
    (λ y. refused≢placed (sym (ap (λ (l : List ℕ). text_form names table (first_line l)) y ∙ no_text names table) ∙ sym h.is))
