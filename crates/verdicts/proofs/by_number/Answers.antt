-- `verdicts::by_number` meets its contract. Assumes nothing.
use Rattle.verdicts.proofs.Words.{accepted_numbered, refused_numbered}
use Rattle.verdicts.proofs.by_number.Goals as goal

pub returns-in-Ok : goal.returns-in-Ok
returns-in-Ok c = accepted_numbered _ _ c.in-Ok.is

pub returns-in-Err : goal.returns-in-Err
returns-in-Err c = refused_numbered _ _ c.in-Err.is _ c.number.ensures
