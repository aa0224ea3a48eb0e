-- `reduce_word::tell_form` meets its contract. Assumes nothing.
use lib.Seq.{length-take-le}
use mathlib.Core.Path.{sym}
use Rattle.telling.proofs.Pieces.{tells-then, tells_as}
use Rattle.reduce_word.proofs.Forms.{text-within, text_taken}
use Rattle.reduce_word.proofs.tell_form.Goals as goal

pub slice_bounds-line-end : goal.slice_bounds-line-end
slice_bounds-line-end c = text-within _ _ _ _ c.print_form-n.ensures

pub slice_bounds-put-end : goal.slice_bounds-put-end
slice_bounds-put-end c = sym (length-take-le _ _ (text-within _ _ _ _ c.print_form-n.ensures))

pub returns : goal.returns
returns c =
    tells-then (tells_as _ (text_taken _ _ _ _ c.print_form-n.ensures) c.put-next.ensures) c.put_byte.ensures
