-- `operators::products::bring_few` meets its contract: the first i terms are brought in. Assumes nothing.
use mathlib.Core.Path.{◌≡◌}
use Prim.Native.Nat.{◌-◌, ◌≤◌}
use lib.ListN.{length}
use Rattle.sums.specs.Results.{Brought}
use Rattle.operators.proofs.Multiplying.{few_taken}
use Rattle.operators.proofs.products.bring_few.Given as goal

abbrev pub invariant-loop-i : goal.invariant-loop-i
invariant-loop-i l = (l.i ≤ l.m) × Brought l.i l.n l.initial.rows l.initial.coefs (few_taken l.few l.i) l.count l.rows l.coefs
    × (length l.rows ≡ length l.initial.rows) × (length l.coefs ≡ length l.initial.coefs)
