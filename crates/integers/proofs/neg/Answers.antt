-- `integers::neg` meets its contract: 0 − a fits, and is the negative. Assumes nothing.
use Rattle.std.proofs.Common.{rules}
use Rattle.integers.proofs.Machine.{negative-asks, negative-gives}
use Rattle.integers.proofs.neg.Goals as goal

pub overflow_sub-result : goal.overflow_sub-result
overflow_sub-result c = negative-asks c.ranges.a c.requires

pub returns : goal.returns
returns c = negative-gives c.ranges.a c.requires
