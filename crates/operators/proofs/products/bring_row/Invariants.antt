-- `operators::products::bring_row` meets its contract. The loop: the terms of the first j pairs are brought in. Assumes nothing.
use mathlib.Core.Path.{◌≡◌}
use Prim.Native.Nat.{◌*◌, ◌-◌, ◌≤◌}
use lib.ListN.{length, take}
use Rattle.terms.specs.Abstraction.{term_of}
use Rattle.rows.specs.Rows.{run_of}
use Rattle.sums.specs.Results.{Brought}
use Rattle.pair_limits.specs.Limits.{row_terms}
use Rattle.operators.proofs.products.bring_row.Given as goal

abbrev pub invariant-loop-j : goal.invariant-loop-j
invariant-loop-j l = (l.j ≤ l.m) × Brought (2 * l.j) l.n l.initial.rows l.initial.coefs
    (row_terms l.op (term_of l.t) (take l.j (run_of l.m l.right l.rights))) l.count l.rows l.coefs × (length l.rows ≡ length l.initial.rows)
    × (length l.coefs ≡ length l.initial.coefs)
