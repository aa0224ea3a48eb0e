-- `elimination::elimination::eliminate` meets its contract. Assumes nothing.
use Rattle.elimination.proofs.Choices.{cleared-asks, cleared_first}
use Rattle.elimination.proofs.elimination.eliminate.Goals as goal

pub choose-requires : goal.choose-requires
choose-requires c =
    cleared-asks _ _ _ _ _ c.requires c.clear.auto.buffer
    c.clear.ensures.zeros

pub returns : goal.returns
returns c =
    cleared_first _ _ _ _ _ c.clear.auto.buffer c.clear.ensures.behind c.choose.ensures
