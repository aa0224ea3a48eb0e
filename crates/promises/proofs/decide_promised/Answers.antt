use Rattle.decision.proofs.Told.{decision_promise}
use Rattle.promises.proofs.decide_promised.Goals as goal

pub returns : goal.returns
returns c = decision_promise _ _ _ _ _ _ _ _ c.decide.ensures
