-- `formulas::joining::goes_on` meets its contract by the level. Assumes nothing.
use Rattle.formulas.proofs.Marks.{on_wedge, on_dot, on_product, on_sum}
use Rattle.formulas.proofs.joining.goes_on.Goals as goal

pub returns-then-level-eq1 : goal.returns-then-level-eq1
returns-then-level-eq1 c = on_wedge _ _ c.if-level-eq1.true

pub returns-then-level-eq2 : goal.returns-then-level-eq2
returns-then-level-eq2 c = on_dot _ _ c.if-level-eq1.false c.if-level-eq2.true

pub returns-then-level-eq3 : goal.returns-then-level-eq3
returns-then-level-eq3 c = on_product _ _ c.if-level-eq1.false c.if-level-eq2.false _ c.if-level-eq3.true c.is_factor.ensures

pub returns : goal.returns
returns c = on_sum _ _ c.if-level-eq1.false c.if-level-eq2.false _ c.if-level-eq3.false c.is_sign.ensures
