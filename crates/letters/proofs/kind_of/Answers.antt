use Rattle.std.proofs.Common.{rules}
use mathlib.Core.Path.{refl}
use Rattle.specification.specs.Letters.{kind_of}
use Rattle.letters.proofs.kind_of.Goals as goal

pub returns : goal.returns
unfolding kind_of
returns c = refl
