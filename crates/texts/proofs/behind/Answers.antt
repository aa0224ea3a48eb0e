use Rattle.std.proofs.Common.{rules}
use Rattle.specification.specs.Text.{next}
use Rattle.texts.proofs.behind.Goals as goal

pub returns : goal.returns
unfolding next
returns c = search rules
