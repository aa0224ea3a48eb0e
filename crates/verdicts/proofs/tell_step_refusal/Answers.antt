-- `verdicts::tell_step_refusal` meets its contract, piece by piece. Assumes nothing.
use Rattle.telling.proofs.Pieces.{tells-then}
use Rattle.specification.specs.Words.{bytes}
use Rattle.specification.specs.Commands.{checked_text}
use Rattle.verdicts.proofs.tell_step_refusal.Goals as goal

pub returns : goal.returns
unfolding checked_text bytes
returns c =
    tells-then (tells-then (tells-then (tells-then (tells-then (tells-then c.put-a.ensures c.put_number-b.ensures) c.put-c.ensures)
    c.put_number-d.ensures) c.put-e.ensures) c.tell_step_reason-f.ensures) c.put.ensures
