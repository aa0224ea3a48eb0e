-- `firsts::lower` meets its contract. Assumes nothing.
use Rattle.firsts.proofs.Numbers.{lowered-earlier, lowered-later}
use Rattle.firsts.proofs.lower.Goals as goal

pub returns-then-is_before : goal.returns-then-is_before
returns-then-is_before c =
    lowered-earlier _ _ _ _ _ _ _ c.eliminate.ensures
    c.is_before.ensures c.if-is_before.true
    c.put_numbers.auto.buffer c.put_numbers.ensures.written c.put_numbers.ensures.behind

pub returns-else-is_before : goal.returns-else-is_before
returns-else-is_before c =
    lowered-later _ _ _ _ _ _ c.eliminate.ensures c.is_before.ensures c.if-is_before.false
