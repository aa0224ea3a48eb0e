-- `sums::adding::bring_rows` meets its contract. The loop: the first j rows are brought in. Assumes nothing.
use mathlib.Core.Path.{◌≡◌, refl}
use Prim.Native.Nat.{◌-◌, ◌≤◌}
use lib.ListN.{length, take}
use Rattle.integers.proofs.Machine.{back_is}
use Rattle.rows.specs.Rows.{run_of}
use Rattle.sums.specs.Results.{Brought}
use Rattle.sums.proofs.Bringing.{brought_none}
use Rattle.sums.proofs.Sums.{row-valid, row-bound, rows-light, rows_more, rows_all}
use native.Mathlib.Omega.{arith}
use Rattle.sums.proofs.adding.bring_rows.Given as goal

abbrev pub invariant-loop-j : goal.invariant-loop-j
invariant-loop-j l = (l.j ≤ l.m) × Brought l.j l.n l.initial.rows l.initial.coefs (take l.j (run_of l.m l.right l.rights)) l.count l.rows l.coefs × (length l.rows ≡ length l.initial.rows) × (length l.coefs ≡ length l.initial.coefs)
