-- `lines::words::stands_at` meets its contract. The loop's invariant: what is left decides. Assumes nothing.
use Rattle.std.proofs.Common.{rules}
use Rattle.specification.specs.Lines.{same_bytes}
use mathlib.Core.Path.{◌≡◌, refl}
use lib.ListN.{length, take, drop}
use Prim.Native.Nat.{◌-◌}
use native.Mathlib.Omega.{arith}
use Rattle.lines.proofs.Bytes.{byte-differs, byte_same, bytes_same}
use Rattle.lines.proofs.words.stands_at.Goals as goal

pub loop-i-init : goal.loop-i-init
loop-i-init c = refl

pub overflow_add-at : goal.overflow_add-at
overflow_add-at c = omega (arith, c.requires)

pub bounds-line-at : goal.bounds-line-at
bounds-line-at c = omega (arith, c.requires)

pub returns-then-line-at : goal.returns-then-line-at
returns-then-line-at c = byte-differs _ _ _ c.requires _ c.loop-i.invariant (omega arith) c.if-line-at.true

pub loop-i-preserved : goal.loop-i-preserved
loop-i-preserved c =
    let c3 = c in
    let c4 = c in
    let c5 = c in
    byte_same c5.args.word.now c5.args.line.now c5.args.at c5.requires _ c4.loop-i.invariant c3.loop-i-test.true c.if-line-at.false

pub returns : goal.returns
returns c = bytes_same _ _ _ c.requires _ c.loop-i.invariant c.loop-i-test.false
