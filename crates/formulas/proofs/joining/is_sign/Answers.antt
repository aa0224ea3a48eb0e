-- `formulas::joining::is_sign` meets its contract. Assumes nothing.
use Rattle.formulas.proofs.Marks.{sign-plus, sign-else}
use Rattle.formulas.proofs.joining.is_sign.Goals as goal

pub returns-then-b-eq43 : goal.returns-then-b-eq43
returns-then-b-eq43 c = sign-plus _ c.if-b-eq43.true

pub returns : goal.returns
returns c = sign-else _ c.if-b-eq43.false
