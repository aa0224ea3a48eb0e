use Rattle.marking.proofs.MarkSizes.{letters-marked}
use Rattle.marking.proofs.products.letter_marks.Goals as goal

pub returns : goal.returns
returns c = letters-marked _ _ _ _ _ _ _ c.letter_mark-a.ensures c.letter_mark-b.ensures c.letter_mark-c.ensures c.letter_mark-d.ensures c.letter_mark-e.ensures c.letter_mark-g.ensures
