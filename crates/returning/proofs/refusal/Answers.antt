-- `returning::refusal` meets its contract: a byte fits, and so does its negative. Assumes nothing.
use mathlib.Core.Path.{◌∙◌}
use native.Mathlib.Omega.{arith}
use Rattle.integers.proofs.Machine.{back_is}
use Rattle.specification.specs.Returns.{returned}
use Rattle.returning.proofs.Numbers.{cast-small, cast-negative}
use Rattle.returning.proofs.refusal.Goals as goal

pub neg-requires : goal.neg-requires
neg-requires c = cast-small {n = c.args.n} (omega arith)

pub returns : goal.returns
unfolding returned
returns c = back_is (record { sfits = c.neg.type_inv }) ∙ cast-negative {n = c.args.n} (omega arith) c.neg.ensures
