-- `marks::steps::gain` meets its contract: the sum is what the products with the rows passed add to the term. Assumes nothing.
use Prim.Native.Nat.{◌≤◌}
use Rattle.marks.proofs.Gains.{Gained}
use Rattle.marks.proofs.steps.gain.Given as goal

abbrev pub invariant-loop-i : goal.invariant-loop-i
invariant-loop-i l = (l.i ≤ l.n) × Gained l.t (record { rule = l.rule; letters = l.letters; m = l.m }) l.i l.g
