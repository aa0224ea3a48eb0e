-- `value_word::assigned_at` meets its contract. Assumes nothing.
use Rattle.value_word.proofs.Answers.{assigned_as}
use Rattle.lines.proofs.Ends.{line_at}
use Rattle.value_word.proofs.assigned_at.Goals as goal

pub returns : goal.returns
returns c =
    let a = c.args in
    assigned_as _ _ _ _ _ _ (line_at a.s.now a.p _ c.line_end-end.ensures) c.read_assigned.ensures
