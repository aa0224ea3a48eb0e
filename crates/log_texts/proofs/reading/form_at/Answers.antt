-- `log_texts::reading::form_at` meets its contract. Assumes nothing.
use mathlib.Core.List.{List}
use mathlib.Core.Path.{subst}
use Prim.Native.Nat.{ℕ}
use Rattle.specification.specs.LogTexts.{read_form_line}
use Rattle.formula_call.specs.Texts.{TextGives}
use Rattle.lines.proofs.Ends.{line_at}
use Rattle.log_texts.proofs.Lines.{form_placed}
use Rattle.log_texts.proofs.reading.form_at.Goals as goal

pub returns : goal.returns
returns c =
    let a = c.args in
    form_placed a.s.now a.names.now a.table.now a.p c.requires.0 _ _
    (subst (λ (l : List ℕ). TextGives (read_form_line a.names.now a.table.now l) c.read_form_line.result) (line_at a.s.now a.p _ c.line_end-end.ensures)
    c.read_form_line.ensures)
    c.at_place.ensures
