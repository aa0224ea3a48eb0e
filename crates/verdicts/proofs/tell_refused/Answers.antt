-- `verdicts::tell_refused` meets its contract. Assumes nothing.
use Rattle.telling.proofs.Pieces.{told_first}
use Rattle.verdicts.proofs.tell_refused.Goals as goal

pub returns : goal.returns
returns c = told_first c.tell_step_refusal.ensures
