-- `integers::from_bits` meets its contract: from 2147483648 on 4294967296 is taken away. Assumes nothing.
use Rattle.std.proofs.Common.{rules}
use native.Mathlib.Omega.{arith}
use Rattle.integers.proofs.Bits.{low_bits, high_bits-ask, high_bits}
use Rattle.integers.proofs.from_bits.Goals as goal

pub overflow_cast-result : goal.overflow_cast-result
overflow_cast-result c = record { sfits = omega arith }

pub overflow_cast-result-else-u-lt2147483648 : goal.overflow_cast-result-else-u-lt2147483648
overflow_cast-result-else-u-lt2147483648 c = record { sfits = omega arith }

pub overflow_sub-result : goal.overflow_sub-result
overflow_sub-result c = high_bits-ask c.if-u-lt2147483648.false c.requires

pub returns-then-u-lt2147483648 : goal.returns-then-u-lt2147483648
returns-then-u-lt2147483648 c = low_bits c.if-u-lt2147483648.true

pub returns-else-u-lt2147483648 : goal.returns-else-u-lt2147483648
returns-else-u-lt2147483648 c = high_bits c.if-u-lt2147483648.false c.requires
