use Rattle.reduction.proofs.KeptValue.{keeps_value}
use Rattle.promises.proofs.reduce_kept.Goals as goal

pub returns : goal.returns
returns c = keeps_value _ _ _ _ _ c.reduce.ensures
