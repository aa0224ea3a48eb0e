-- `integers::mul` meets its contract: the product fits. Assumes nothing.
use Rattle.std.proofs.Common.{rules}
use native.Mathlib.Nat.{le_refl}
use lib.IntN.{◌*ℤ◌}
use Rattle.algebra.specs.Integers.{sfits-prod}
use Rattle.integers.proofs.Machine.{asks, gives}
use Rattle.integers.proofs.mul.Goals as goal

pub overflow_mul-result : goal.overflow_mul-result
overflow_mul-result c = asks ◌*ℤ◌ c.ranges.a c.ranges.b (sfits-prod c.args.a c.args.b _ _ (le_refl _) (le_refl _) c.requires)

pub returns : goal.returns
returns c = gives ◌*ℤ◌ c.ranges.a c.ranges.b (sfits-prod c.args.a c.args.b _ _ (le_refl _) (le_refl _) c.requires)
