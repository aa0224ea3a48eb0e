-- `picks::choosing::ascend_strictly`. The loop: the numbers ascend strictly exactly if those from number i on do. Assumes nothing.
use mathlib.Core.Path.{◌≡◌}
use Prim.Native.Nat.{◌≤◌, ◌-◌}
use lib.ListN.{take, drop}
use lib.Dec.{ltb}
use Rattle.specification.specs.Lists.{ascend}
use Rattle.picks.proofs.choosing.ascend_strictly.Given as goal

abbrev pub invariant-loop-i : goal.invariant-loop-i
invariant-loop-i l = (1 ≤ l.i) × (ascend ltb (drop (l.i - 1) (take l.n l.f)) ≡ ascend ltb (take l.n l.f))
