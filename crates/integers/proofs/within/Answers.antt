-- `integers::within` meets its contract: each side of 0 by its own test. Assumes nothing.
use Rattle.std.proofs.Common.{rules}
use Rattle.integers.proofs.Machine.{negative-within, positive-within}
use Rattle.integers.proofs.within.Goals as goal

pub returns-then-a-lt0 : goal.returns-then-a-lt0
returns-then-a-lt0 c = negative-within c.ranges.a c.if-a-lt0.true

pub returns-else-a-lt0 : goal.returns-else-a-lt0
returns-else-a-lt0 c = positive-within c.ranges.a c.if-a-lt0.false
