-- `integers::write_four_bytes` meets its contract: four stores, one for each byte of the bits. Assumes nothing.
use Rattle.std.proofs.Common.{rules}
use mathlib.Core.Path.{ap, ◌∙◌}
use native.Mathlib.Omega.{arith}
use lib.ListN.{length-set}
use Rattle.specification.specs.Records.{to_bits32}
use Rattle.integers.proofs.Machine.{back_is}
use Rattle.integers.proofs.Bits.{four-stores}
use Rattle.integers.proofs.write_four_bytes.Goals as goal

pub to_bits-u-requires : goal.to_bits-u-requires
to_bits-u-requires c = let w = c in rw (back_is w.ranges.a) w.requires.0

pub bounds-out-at-2 : goal.bounds-out-at-2
bounds-out-at-2 c = simp length-set (omega arith)

pub bounds-out-at-3 : goal.bounds-out-at-3
bounds-out-at-3 c = simp length-set (omega arith)

pub bounds-out-at-4 : goal.bounds-out-at-4
bounds-out-at-4 c = simp length-set (omega arith)

pub shape_of-out : goal.shape_of-out
shape_of-out c = simp length-set

pub returns : goal.returns
returns c =
    let w = c in
    four-stores w.args.out.now w.args.at w.args.a c.to_bits-u.result w.requires.1 (c.to_bits-u.ensures ∙ ap to_bits32 (back_is w.ranges.a))
