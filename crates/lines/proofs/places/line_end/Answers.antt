-- `lines::places::line_end` meets its contract. The loop's invariant: no newline so far (`NoEnd`). Assumes nothing.
use Rattle.std.proofs.Common.{rules}
use lib.ListN.{length}
use mathlib.Core.Path.{subst}
use Rattle.lines.specs.Places.{LineEnd}
use Prim.Native.Nat.{◌-◌}
use native.Mathlib.Omega.{arith}
use Rattle.lines.proofs.Ends.{NoEnd, none_passed, byte-passed, newline-there, text-ends}
use Rattle.lines.proofs.places.line_end.Goals as goal

pub loop-i-init : goal.loop-i-init
loop-i-init c = none_passed _ _ c.requires

pub returns-then-s-i-eq10 : goal.returns-then-s-i-eq10
returns-then-s-i-eq10 c = newline-there _ _ _ c.loop-i.invariant (omega arith) c.if-s-i-eq10.true

pub loop-i-preserved : goal.loop-i-preserved
loop-i-preserved c = byte-passed _ _ _ c.loop-i.invariant (omega arith) c.if-s-i-eq10.false

pub returns : goal.returns
returns c = subst (LineEnd _ _) (omega arith) (text-ends _ _ _ c.loop-i.invariant c.loop-i-test.false)
