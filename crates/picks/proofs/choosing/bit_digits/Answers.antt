use mathlib.Core.Path.{refl}
use lib.Count.{ones, ones_in}
use Rattle.picks.specs.Choosing.{bit_digits}
use Rattle.picks.proofs.choosing.bit_digits.Goals as goal

pub returns : goal.returns
unfolding bit_digits ones ones_in
returns c = refl
