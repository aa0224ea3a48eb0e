-- `picks::choosing::take_by_mask`. The loop: the numbers taken are those of the first i at which the mask has a 1. Assumes nothing.
use Prim.Native.Nat.{◌≤◌}
use lib.ListN.{take}
use Rattle.picks.proofs.Masks.{Under}
use Rattle.picks.proofs.choosing.take_by_mask.Given as goal

abbrev pub invariant-loop-i : goal.invariant-loop-i
invariant-loop-i l = (l.i ≤ l.n) × Under (take l.n l.from) l.mask l.to l.b l.c l.i
