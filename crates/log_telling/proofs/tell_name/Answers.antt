-- `log_telling::tell_name` meets its contract. Assumes nothing.
use Rattle.telling.proofs.Pieces.{tells-then}
use Rattle.log_telling.specs.Names.{name_text}
use Rattle.log_telling.proofs.tell_name.Goals as goal

pub returns : goal.returns
unfolding name_text
returns c =
    tells-then c.tell_change-word.ensures (tells-then c.put_byte-blank.ensures c.put_byte.ensures)
