-- `formulas::joining::most_of` meets its contract. Assumes nothing.
use Rattle.formulas.proofs.Marks.{most_one, most_all}
use Rattle.formulas.proofs.joining.most_of.Goals as goal

pub returns-then-level-le2 : goal.returns-then-level-le2
returns-then-level-le2 c = most_one _ _ c.if-level-le2.true

pub returns : goal.returns
returns c = most_all _ _ c.if-level-le2.false
