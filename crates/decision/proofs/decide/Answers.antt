-- `decision::decide` meets its contract. Assumes nothing.
use Rattle.specification.specs.Decision.{Decided}
use Rattle.decision.specs.Answers.{decision_of}
use Rattle.decision.proofs.Deciding.{stands, settle-asks, settled}
use Rattle.decision.proofs.decide.Goals as goal

pub settle-requires : goal.settle-requires
settle-requires c = (settle-asks _ _ _ _ _ _ _ c.in-Ok.ensures, c.components.ensures)

pub returns-in-Ok : goal.returns-in-Ok
unfolding Decided
returns-in-Ok c = settled _ _ _ _ _ _ _ c.in-Ok.ensures _ _ _ c.settle.ensures

pub returns-in-Err : goal.returns-in-Err
unfolding Decided decision_of
returns-in-Err c = stands _ _ _ _ _ _ c.in-Err.ensures
