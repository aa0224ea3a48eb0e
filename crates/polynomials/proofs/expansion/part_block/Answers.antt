-- `polynomials::expansion::part_block` meets its contract. Assumes nothing.
use Rattle.polynomials.proofs.Pieces.{part_one, part_zero, part-single, part-cross}
use Rattle.polynomials.proofs.expansion.part_block.Goals as goal

pub returns-then-i-eq0 : goal.returns-then-i-eq0
returns-then-i-eq0 c = part_one _ _ c.in-Nothing.is c.if-i-eq0.true

pub returns-else-i-eq0 : goal.returns-else-i-eq0
returns-else-i-eq0 c = part_zero _ _ c.in-Nothing.is c.if-i-eq0.false

pub returns-in-Letter : goal.returns-in-Letter
returns-in-Letter c = part-single _ _ _ c.in-Letter.is

pub returns-in-Wedge : goal.returns-in-Wedge
returns-in-Wedge c = part-cross _ _ _ _ c.in-Wedge.is
