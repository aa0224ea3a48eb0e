-- `integers::is_negative` meets its contract. Assumes nothing.
use Rattle.std.proofs.Common.{rules}
use Rattle.integers.proofs.Machine.{below-zero}
use Rattle.integers.proofs.is_negative.Goals as goal

pub returns : goal.returns
returns c = below-zero c.ranges.a
