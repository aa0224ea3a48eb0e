-- `log_texts::reading::step_at` meets its contract. Assumes nothing.
use mathlib.Core.List.{List}
use mathlib.Core.Path.{subst}
use Prim.Native.Nat.{ℕ}
use Rattle.lines.proofs.Ends.{line_at}
use Rattle.log_texts.specs.Steps.{StepLineRead}
use Rattle.log_texts.proofs.Lines.{step_placed}
use Rattle.log_texts.proofs.reading.step_at.Goals as goal

pub returns : goal.returns
returns c =
    let a = c.args in
    step_placed a.s.now a.names.now a.table.now a.p c.requires.0 _ _
    (subst (λ (l : List ℕ). StepLineRead a.names.now a.table.now l c.read_step_line.result)
    (line_at a.s.now a.p _ c.line_end-end.ensures) c.read_step_line.ensures)
    c.at_place.ensures
