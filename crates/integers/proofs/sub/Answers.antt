-- `integers::sub` meets its contract: the difference fits. Assumes nothing.
use Rattle.std.proofs.Common.{rules}
use lib.IntN.{◌-ℤ◌}
use Rattle.algebra.specs.Integers.{sfits-diff}
use Rattle.integers.proofs.Machine.{asks, gives}
use Rattle.integers.proofs.sub.Goals as goal

pub overflow_sub-result : goal.overflow_sub-result
overflow_sub-result c = asks ◌-ℤ◌ c.ranges.a c.ranges.b (sfits-diff c.args.a c.args.b c.requires)

pub returns : goal.returns
returns c = gives ◌-ℤ◌ c.ranges.a c.ranges.b (sfits-diff c.args.a c.args.b c.requires)
