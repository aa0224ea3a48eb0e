-- `lines::places::is_empty_line` meets its contract. The loop's invariant: what is left decides. Assumes nothing.
use Rattle.std.proofs.Common.{rules}
use Rattle.specification.specs.Lines.{is_empty_line}
use mathlib.Core.Path.{◌≡◌, refl}
use lib.ListN.{length, drop}
use Prim.Native.Nat.{◌-◌}
use native.Mathlib.Omega.{arith}
use Rattle.lines.proofs.Ends.{not_empty, blank-passed, all_blank}
use Rattle.lines.proofs.places.is_empty_line.Goals as goal

pub loop-b-init : goal.loop-b-init
loop-b-init c = refl

pub returns-then-b-ne32 : goal.returns-then-b-ne32
returns-then-b-ne32 c = not_empty _ _ c.loop-b.invariant (omega arith) c.if-b-ne32.true

pub loop-b-preserved : goal.loop-b-preserved
loop-b-preserved c = blank-passed _ _ c.loop-b.invariant (omega arith) c.if-b-ne32.false

pub returns : goal.returns
returns c = all_blank _ _ c.loop-b.invariant c.loop-b-test.false
