-- `marking::marking::mark_rows` meets its contract: the marks cover the terms passed. Assumes nothing.
use mathlib.Core.Path.{◌≡◌}
use Prim.Native.Nat.{◌≤◌}
use lib.ListN.{length, take}
use Rattle.rows.specs.Rows.{run_of}
use Rattle.marking.specs.Marks.{Covering}
use Rattle.marking.proofs.marking.mark_rows.Given as goal

abbrev pub invariant-loop-i : goal.invariant-loop-i
invariant-loop-i l = (l.i ≤ l.n) × (length l.marks ≡ 512) × Covering l.marks (take l.i (run_of l.n l.rows l.coefs))
