-- `formula_lines::form_at` meets its contract. Assumes nothing.
use Rattle.formula_call.specs.Texts.{TextGives}
use Rattle.lines.proofs.Ends.{line_at}
use Rattle.specification.specs.Text.{text_form}
use Prim.Native.Nat.{ℕ}
use mathlib.Core.Path.{subst}
use mathlib.Core.List.{List}
use Rattle.formula_lines.proofs.Forms.{names-named}
use Rattle.formula_lines.proofs.form_at.Goals as goal

pub form_of_text-requires : goal.form_of_text-requires
form_of_text-requires c = names-named _ _ c.requires.0

pub returns : goal.returns
returns c =
    let a = c.args in
    subst (λ (l : List ℕ). TextGives (text_form a.names.now a.table.now l) c.form_of_text.result) (line_at a.s.now a.p _ c.line_end-end.ensures)
    c.form_of_text.ensures
