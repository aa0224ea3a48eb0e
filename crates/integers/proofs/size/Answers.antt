-- `integers::size` meets its contract: below 0 it is the negative, from 0 on the number itself. Assumes nothing.
use Rattle.std.proofs.Common.{rules}
use mathlib.Core.Path.{ap}
use native.Mathlib.Omega.{arith}
use lib.IntN.{nat_abs}
use Rattle.integers.proofs.Machine.{negative-asks, negative-size, positive-size}
use Rattle.integers.proofs.size.Goals as goal

pub overflow_sub-result : goal.overflow_sub-result
overflow_sub-result c = negative-asks c.ranges.a c.requires

pub overflow_cast-result : goal.overflow_cast-result
overflow_cast-result c = let a = c in rw (negative-size a.ranges.a a.requires c.if-a-lt0.true) (tt, record { fits = omega arith })

pub overflow_cast-result-else-a-lt0 : goal.overflow_cast-result-else-a-lt0
overflow_cast-result-else-a-lt0 c = rw (positive-size c.ranges.a c.if-a-lt0.false) (tt, record { fits = omega arith })

pub returns-then-a-lt0 : goal.returns-then-a-lt0
returns-then-a-lt0 c = let a = c in ap nat_abs (negative-size a.ranges.a a.requires c.if-a-lt0.true)

pub returns-else-a-lt0 : goal.returns-else-a-lt0
returns-else-a-lt0 c = ap nat_abs (positive-size c.ranges.a c.if-a-lt0.false)
