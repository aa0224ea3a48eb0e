-- `lines::places::line_end` meets its contract. The loop's invariant: no newline so far (`NoEnd`). Assumes nothing.
use lib.ListN.{length}
use Prim.Native.Nat.{◌-◌}
use native.Mathlib.Omega.{arith}
use Rattle.lines.proofs.Ends.{NoEnd, none_passed, byte-passed, newline-there, text-ends}
use Rattle.lines.proofs.places.line_end.Given as goal

abbrev pub invariant-loop-i : goal.invariant-loop-i
invariant-loop-i l = NoEnd l.s l.at l.i
