-- `integers::to_bits` meets its contract: below 0 4294967296 is added. Assumes nothing.
use Rattle.std.proofs.Common.{rules}
use mathlib.Core.Path.{ap}
use native.Mathlib.Omega.{arith}
use lib.IntN.{nat_abs}
use Rattle.integers.proofs.Bits.{negative-asks-bits, negative-bits, positive-bits, bits-bound}
use Rattle.integers.proofs.to_bits.Goals as goal

pub overflow_add-result : goal.overflow_add-result
overflow_add-result c = negative-asks-bits c.ranges.a c.requires

pub overflow_cast-result : goal.overflow_cast-result
overflow_cast-result c = rw (negative-bits c.ranges.a c.requires c.if-a-lt0.true) (tt, record { fits = omega (arith, bits-bound c.args.a c.requires) })

pub overflow_cast-result-else-a-lt0 : goal.overflow_cast-result-else-a-lt0
overflow_cast-result-else-a-lt0 c = rw (positive-bits c.ranges.a c.if-a-lt0.false) (tt, record { fits = omega (arith, bits-bound c.args.a c.requires) })

pub returns-then-a-lt0 : goal.returns-then-a-lt0
returns-then-a-lt0 c = ap nat_abs (negative-bits c.ranges.a c.requires c.if-a-lt0.true)

pub returns-else-a-lt0 : goal.returns-else-a-lt0
returns-else-a-lt0 c = ap nat_abs (positive-bits c.ranges.a c.if-a-lt0.false)
