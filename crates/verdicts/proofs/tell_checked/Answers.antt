-- `verdicts::tell_checked` meets its contract. Assumes nothing.
use Rattle.verdicts.proofs.Words.{refused_told, accepted-told}
use Rattle.verdicts.proofs.tell_checked.Goals as goal

pub returns-in-Ok : goal.returns-in-Ok
returns-in-Ok c = accepted-told _ _ _ _ _ _ c.in-Ok.is c.tell_accepted.ensures

pub returns-in-Err : goal.returns-in-Err
returns-in-Err c = refused_told _ _ _ _ _ _ _ c.in-Err.is c.tell_refused.ensures
