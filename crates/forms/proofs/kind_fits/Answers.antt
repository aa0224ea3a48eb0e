use Rattle.std.proofs.Common.{rules}
use Rattle.forms.proofs.Takers.{kind-scalar, kind-vector}
use Rattle.forms.proofs.kind_fits.Goals as goal

pub returns-then-part_letters-eq0 : goal.returns-then-part_letters-eq0
returns-then-part_letters-eq0 c = kind-scalar _ _ _ c.part_letters.ensures c.if-part_letters-eq0.true

pub returns : goal.returns
returns c = kind-vector _ _ _ c.part_letters.ensures c.if-part_letters-eq0.false
