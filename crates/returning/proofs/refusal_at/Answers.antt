-- `returning::refusal_at` meets its contract: number and step fit, and so does their negative. Assumes nothing.
use mathlib.Core.Path.{◌∙◌}
use Prim.Native.Nat.{◌+◌, ◌*◌}
use native.Mathlib.Omega.{arith}
use Rattle.returning.proofs.Numbers.{cast-small, cast-negative}
use Rattle.specification.specs.Returns.{returned_at}
use Rattle.integers.proofs.Machine.{back_is}
use Rattle.returning.proofs.refusal_at.Goals as goal

pub neg-requires : goal.neg-requires
neg-requires c = cast-small {n = c.args.n * 256 + c.args.k} (omega arith)

pub returns : goal.returns
unfolding returned_at
returns c = back_is (record { sfits = c.neg.type_inv }) ∙ cast-negative {n = c.args.n * 256 + c.args.k} (omega arith) c.neg.ensures
