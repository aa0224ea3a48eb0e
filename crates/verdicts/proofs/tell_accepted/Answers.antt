-- `verdicts::tell_accepted` meets its contract, piece by piece. Assumes nothing.
use Rattle.telling.proofs.Pieces.{tells-then, told_first}
use Rattle.specification.specs.Words.{bytes}
use Rattle.specification.specs.Commands.{checked_text}
use Rattle.verdicts.proofs.tell_accepted.Goals as goal

pub returns : goal.returns
unfolding checked_text bytes
returns c =
    told_first
    (tells-then (tells-then (tells-then (tells-then (tells-then (tells-then c.put-a.ensures c.tell_count-b.ensures) c.put-c.ensures)
    c.tell_count-d.ensures) c.put-e.ensures) c.put_number-f.ensures) c.put.ensures)
