-- `pair_limits::most_of` meets its contract. The loop: the largest numbers are those of the terms from row i on. Assumes nothing.
use mathlib.Core.List.{[]}
use Prim.Native.Nat.{◌-◌, ◌≤◌}
use lib.ListN.{drop}
use Rattle.integers.proofs.Machine.{back_is}
use Rattle.terms.proofs.Arrays.{all-at}
use Rattle.rows.specs.Rows.{RowValid, run_of}
use Rattle.rows.proofs.Runs.{run_length}
use Rattle.pair_limits.specs.Limits.{MostOf}
use Rattle.pair_limits.proofs.Largest.{most_none, row_size, most-row, from-the_first}
use native.Mathlib.Omega.{arith}
use Rattle.pair_limits.proofs.most_of.Given as goal

abbrev pub invariant-loop-i : goal.invariant-loop-i
invariant-loop-i l = (l.i ≤ l.n) × MostOf (drop l.i (run_of l.n l.rows l.coefs)) l.m
