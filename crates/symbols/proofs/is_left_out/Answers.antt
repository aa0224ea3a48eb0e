-- `symbols::is_left_out` meets its contract: the size is 1, and anything else is written. Assumes nothing.
use Rattle.symbols.proofs.Pieces.{other-size, size_one}
use Rattle.symbols.proofs.is_left_out.Goals as goal

pub returns-then-n-ne1 : goal.returns-then-n-ne1
returns-then-n-ne1 c = other-size _ _ c.if-n-ne1.true

pub returns : goal.returns
returns c = size_one _ _ _ c.if-n-ne1.false c.is_bare.ensures
