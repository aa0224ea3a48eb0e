-- `firsts::is_before` meets its contract: the numbers before i are alike. Assumes nothing.
use Prim.Native.Nat.{◌≤◌}
use Rattle.theory.specs.Values.Firsts.{Alike}
use Rattle.firsts.proofs.is_before.Given as goal

abbrev pub invariant-loop-i : goal.invariant-loop-i
invariant-loop-i l = (l.i ≤ l.n) × Alike l.i l.s l.t
