-- `log_telling::tell_kind` meets its contract, by the kind. Assumes nothing.
use Rattle.specification.specs.Words.{bytes}
use Rattle.log_telling.proofs.Pieces.{kind-scalar, kind-vector}
use Rattle.log_telling.proofs.tell_kind.Goals as goal

pub returns-then-kind-eq0 : goal.returns-then-kind-eq0
unfolding bytes
returns-then-kind-eq0 c =
    kind-scalar _ c.if-kind-eq0.true c.put.ensures

pub returns : goal.returns
unfolding bytes
returns c =
    kind-vector _ c.if-kind-eq0.false c.put-2.ensures
