use Rattle.marking.proofs.MarkSizes.{term-mark_is}
use Rattle.marking.proofs.marking.term_mark.Goals as goal

pub returns : goal.returns
returns c = term-mark_is c.args.t _ _ c.factors_mark-a.ensures.0 c.part_mark-b.ensures.0
