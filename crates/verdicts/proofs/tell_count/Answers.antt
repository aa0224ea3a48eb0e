-- `verdicts::tell_count` meets its contract, piece by piece. Assumes nothing.
use Rattle.verdicts.proofs.Words.{one_text, many-text}
use Rattle.telling.proofs.Pieces.{tells_as, tells-then, tells-nothing}
use Rattle.specification.specs.Words.{bytes}
use Rattle.verdicts.proofs.tell_count.Goals as goal

pub returns-then-n-eq1 : goal.returns-then-n-eq1
unfolding bytes
returns-then-n-eq1 c =
    tells_as _ (one_text _ _ c.if-n-eq1.true)
    (tells-then (tells-then (tells-then c.put_number-a.ensures c.put-b.ensures) c.put-c.ensures) (tells-nothing _ _))

pub returns : goal.returns
unfolding bytes
returns c =
    tells_as _ (many-text _ _ c.if-n-eq1.false)
    (tells-then (tells-then (tells-then c.put_number-a.ensures c.put-b.ensures) c.put-c.ensures) c.put.ensures)
