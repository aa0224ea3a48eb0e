-- `polynomials::passes::lesser` meets its contract. Assumes nothing.
use Rattle.polynomials.proofs.Turns.{lesser_first, lesser-second, lesser-le, lesser_gt}
use Rattle.polynomials.proofs.passes.lesser.Goals as goal

pub returns-then-a-eq0 : goal.returns-then-a-eq0
returns-then-a-eq0 c = lesser_first _ _ c.if-a-eq0.true

pub returns-then-b-eq0 : goal.returns-then-b-eq0
returns-then-b-eq0 c = lesser-second _ _ c.if-a-eq0.false c.if-b-eq0.true

pub returns-then-a-b : goal.returns-then-a-b
returns-then-a-b c = lesser-le _ _ c.if-a-eq0.false c.if-b-eq0.false c.if-a-b.true

pub returns-else-a-b : goal.returns-else-a-b
returns-else-a-b c = lesser_gt _ _ c.if-a-eq0.false c.if-b-eq0.false c.if-a-b.false
