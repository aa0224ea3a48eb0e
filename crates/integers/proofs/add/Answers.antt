-- `integers::add` meets its contract: the sum fits. Assumes nothing.
use Rattle.std.proofs.Common.{rules}
use lib.IntN.{◌+ℤ◌}
use Rattle.algebra.specs.Integers.{sfits-sum}
use Rattle.integers.proofs.Machine.{asks, gives}
use Rattle.integers.proofs.add.Goals as goal

pub overflow_add-result : goal.overflow_add-result
overflow_add-result c = asks ◌+ℤ◌ c.ranges.a c.ranges.b (sfits-sum c.args.a c.args.b c.requires)

pub returns : goal.returns
returns c = gives ◌+ℤ◌ c.ranges.a c.ranges.b (sfits-sum c.args.a c.args.b c.requires)
