-- `polynomials::expansion::piece_sign` meets its contract. Assumes nothing.
use Rattle.polynomials.proofs.Pieces.{sign-plus, sign-minus}
use Rattle.polynomials.proofs.expansion.piece_sign.Goals as goal

pub returns-then-o-eq0 : goal.returns-then-o-eq0
returns-then-o-eq0 c = sign-plus _ c.if-o-eq0.true

pub returns-else-o-eq0 : goal.returns-else-o-eq0
returns-else-o-eq0 c = sign-minus _ c.if-o-eq0.false
