-- `decision_telling::tell_difference` meets its contract, piece by piece. Assumes nothing.
use Rattle.terms.specs.Abstraction.{form_of}
use Rattle.specification.specs.Words.{bytes}
use Rattle.decision_telling.proofs.Differences.{difference-told}
use Rattle.decision_telling.proofs.tell_difference.Goals as goal

pub returns : goal.returns
unfolding bytes
returns c =
    let a = c.args in
    difference-told a.names.now a.table.now (form_of a.f) (form_of a.g) a.s.now c.put-a.ensures c.tell_assignment-b.ensures
    c.put-c.ensures c.tell_form_value-d.ensures c.put-e.ensures c.tell_form_value-h.ensures c.put.ensures
