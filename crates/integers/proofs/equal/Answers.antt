-- `integers::equal` meets its contract. Assumes nothing.
use Rattle.std.proofs.Common.{rules}
use Rattle.integers.proofs.Machine.{bits_of-equal}
use Rattle.integers.proofs.equal.Goals as goal

pub returns : goal.returns
returns c = bits_of-equal _ _ c.ranges.a c.ranges.b
