-- `value_telling::tell_entry` meets its contract, piece by piece. Assumes nothing.
use Rattle.specification.specs.Words.{bytes}
use Rattle.telling.proofs.Pieces.{tells-then, tells_as, tells-nothing}
use Rattle.value_telling.proofs.Entries.{entry-last, entry_before}
use Rattle.value_telling.proofs.tell_entry.Goals as goal

pub returns-then-left-eq0 : goal.returns-then-left-eq0
unfolding bytes
returns-then-left-eq0 c =
    tells_as _ (entry-last _ _ _ _ c.if-left-eq0.true)
    (tells-then (tells-then (tells-then c.put_byte-a.ensures c.put-b.ensures) c.tell_value-c.ensures) (tells-nothing _ _))

pub returns : goal.returns
unfolding bytes
returns c =
    tells_as _ (entry_before _ _ _ _ c.if-left-eq0.false)
    (tells-then (tells-then (tells-then c.put_byte-a.ensures c.put-b.ensures) c.tell_value-c.ensures) c.put.ensures)
