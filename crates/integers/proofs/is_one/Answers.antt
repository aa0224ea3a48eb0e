-- `integers::is_one` meets its contract. Assumes nothing.
use Rattle.std.proofs.Common.{rules}
use Rattle.integers.proofs.Machine.{bits_of_one}
use Rattle.integers.proofs.is_one.Goals as goal

pub returns : goal.returns
returns c = bits_of_one _ c.ranges.a
