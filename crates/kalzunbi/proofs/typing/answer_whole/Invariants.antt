-- `kalzunbi::typing::answer_whole` meets its contract. Assumes nothing.
use Prim.Native.Nat.{◌-◌}
use native.Mathlib.Omega.{arith}
use lib.ListN.{length}
use Rattle.kalzunbi.specs.Progress.{InText}
use Rattle.kalzunbi.proofs.typing.answer_whole.Given as goal

abbrev pub invariant-loop-q : goal.invariant-loop-q
invariant-loop-q l = InText (length l.s) l.q

abbrev pub decreases-loop-q : goal.decreases-loop-q
decreases-loop-q l = length l.s - l.q.at
