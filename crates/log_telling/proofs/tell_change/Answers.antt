-- `log_telling::tell_change` meets its contract. Assumes nothing.
use Rattle.log_telling.proofs.Pieces.{change_none, change-word}
use Rattle.log_telling.proofs.tell_change.Goals as goal

pub returns-then-kind-before : goal.returns-then-kind-before
returns-then-kind-before c = change_none _ _ _ _ c.if-kind-before.true

pub returns : goal.returns
returns c =
    change-word _ _ c.if-kind-before.false c.put_byte-next.ensures c.tell_kinds.ensures
