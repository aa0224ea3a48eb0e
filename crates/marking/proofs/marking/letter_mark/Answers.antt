use Rattle.std.proofs.Common.{rules}
use Rattle.marking.specs.Marks.{letter_mark}
use Rattle.marking.proofs.marking.letter_mark.Goals as goal

pub returns : goal.returns
unfolding letter_mark
returns c = search rules
