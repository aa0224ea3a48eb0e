-- `integers::four_bytes_at` meets its contract: the four bytes joined are the bits of the number. Assumes nothing.
use Rattle.std.proofs.Common.{rules}
use mathlib.Core.Path.{ap, ◌∙◌}
use native.Mathlib.Omega.{arith}
use Rattle.specification.specs.Records.{from_bits32, four_bytes_at}
use Rattle.integers.proofs.Machine.{back_is}
use Rattle.integers.proofs.Bits.{from_bits-bound}
use Rattle.integers.proofs.four_bytes_at.Goals as goal

pub join-requires : goal.join-requires
join-requires c = tt

pub from_bits-requires : goal.from_bits-requires
from_bits-requires c = c.join.ensures.1

pub returns : goal.returns
unfolding four_bytes_at
returns c =
    let e = back_is (record { sfits = c.from_bits.type_inv }) ∙ c.from_bits.ensures in
    record { value = e ∙ ap from_bits32 c.join.ensures.0; bound = rw e (from_bits-bound c.join.ensures.1) }
