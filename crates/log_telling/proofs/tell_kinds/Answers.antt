-- `log_telling::tell_kinds` meets its contract. Assumes nothing.
use Rattle.telling.proofs.Pieces.{tells-then, tells_as}
use Rattle.log_telling.proofs.Pieces.{kinds_word_lem}
use Rattle.log_telling.proofs.tell_kinds.Goals as goal

pub returns : goal.returns
returns c =
    tells_as _ (kinds_word_lem _) (tells-then c.tell_kind-word.ensures c.put_byte.ensures)
