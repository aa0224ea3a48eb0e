-- `formulas::joining::is_factor` meets its contract. Assumes nothing.
use Rattle.formulas.proofs.Marks.{factor-star, factor-letter, factor-else}
use Rattle.formulas.proofs.joining.is_factor.Goals as goal

pub returns-then-b-eq42 : goal.returns-then-b-eq42
returns-then-b-eq42 c = factor-star _ c.if-b-eq42.true

pub returns-then-is_letter : goal.returns-then-is_letter
returns-then-is_letter c = factor-letter _ _ c.if-b-eq42.false c.is_letter.ensures c.if-is_letter.true

pub returns : goal.returns
returns c = factor-else _ _ c.if-b-eq42.false c.is_letter.ensures c.if-is_letter.false
