-- `integers::is_zero` meets its contract. Assumes nothing.
use Rattle.std.proofs.Common.{rules}
use Rattle.integers.proofs.Machine.{bits_of_zero}
use Rattle.integers.proofs.is_zero.Goals as goal

pub returns : goal.returns
returns c = bits_of_zero _ c.ranges.a
