-- `candidates::trying::next_pick` meets its contract: nothing is to be hoped for from the picks passed. Assumes nothing.
use Prim.Native.Nat.{◌≤◌}
use Rattle.candidates.proofs.Trials.{PicksPassed}
use Rattle.candidates.proofs.trying.next_pick.Given as goal

abbrev pub invariant-loop-j : goal.invariant-loop-j
invariant-loop-j l = (l.from ≤ l.j) × PicksPassed l.marks l.t l.rule l.o l.from l.j
