-- `marks::steps::mark_reached` meets its contract: 255 stands at the marks of the products passed. Assumes nothing.
use Prim.Native.Nat.{◌≤◌}
use Rattle.marks.proofs.RowsPassed.{Raised}
use Rattle.marks.proofs.steps.mark_reached.Given as goal

abbrev pub invariant-loop-i : goal.invariant-loop-i
invariant-loop-i l = (l.i ≤ l.n) × Raised l.initial.marks l.w l.rows l.i l.marks
