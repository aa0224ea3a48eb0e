-- `pair_limits::fit_of_row` meets its contract. The loop: the terms of the pairs from place j on are tested. Assumes nothing.
use mathlib.Core.List.{[]}
use Prim.Native.Nat.{◌-◌, ◌≤◌}
use lib.ListN.{drop}
use Rattle.integers.proofs.Machine.{back_is}
use Rattle.terms.specs.Abstraction.{term_of}
use Rattle.terms.proofs.Arrays.{all-at}
use Rattle.rows.specs.Rows.{RowValid, run_of}
use Rattle.rows.proofs.Runs.{run_length}
use Rattle.pair_limits.specs.Limits.{FitOf, Paired, row_terms}
use Rattle.pair_limits.proofs.Largest.{in_front_lem, from-the_first}
use Rattle.pair_limits.proofs.Fitting.{at_row, row-none, row_more}
use native.Mathlib.Omega.{arith}
use Rattle.pair_limits.proofs.fit_of_row.Given as goal

abbrev pub invariant-loop-j : goal.invariant-loop-j
invariant-loop-j l = (l.j ≤ l.m) × FitOf (row_terms l.op (term_of l.t) (drop l.j (run_of l.m l.right l.rights))) l.fit
