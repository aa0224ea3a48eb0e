-- `assignment_texts::at_end` meets its contract. Assumes nothing.
use Rattle.assignment_texts.proofs.Turns.{end-missing, end_given}
use Rattle.assignment_texts.proofs.at_end.Goals as goal

pub returns-then-not-good_assignment : goal.returns-then-not-good_assignment
returns-then-not-good_assignment c =
    let a = c.args in
    end-missing a.table.now a.at a.so.now _ c.good_assignment.ensures c.if-not-good_assignment.true

pub returns : goal.returns
returns c =
    let a = c.args in
    end_given a.table.now a.at a.so.now _ c.good_assignment.ensures c.if-not-good_assignment.false
