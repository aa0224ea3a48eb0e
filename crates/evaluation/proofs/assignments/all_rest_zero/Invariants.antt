-- `evaluation::assignments::all_rest_zero` meets its contract: the test holds at every letter below n. Assumes nothing.
use mathlib.Core.Path.{◌≡◌}
use mathlib.Core.Bool.{true}
use Prim.Native.Nat.{◌≤◌}
use lib.ListN.{length}
use Rattle.specification.specs.Lists.{each}
use Rattle.specification.specs.Evaluation.{rest_is_zero}
use Rattle.evaluation.proofs.assignments.all_rest_zero.Given as goal

abbrev pub invariant-loop-n : goal.invariant-loop-n
invariant-loop-n l = (l.n ≤ length l.table) × (each l.n (rest_is_zero l.table l.s) ≡ true)
