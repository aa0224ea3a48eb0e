-- `marks::steps::surely_longer` meets its contract: the score is that of the rows passed. Assumes nothing.
use mathlib.Core.Path.{◌≡◌}
use Prim.Native.Nat.{◌*◌, ◌≤◌}
use lib.ListN.{length}
use Rattle.marks.proofs.RowsPassed.{AllPassed}
use Rattle.marks.proofs.steps.surely_longer.Given as goal

abbrev pub invariant-loop-i : goal.invariant-loop-i
invariant-loop-i l = (l.i ≤ l.n) × (length l.hs ≡ 8) × (l.score ≤ 2 * l.i) × AllPassed l.marks l.v l.w l.n l.rows l.hs l.score l.i
