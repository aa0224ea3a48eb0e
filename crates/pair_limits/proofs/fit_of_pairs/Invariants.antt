-- `pair_limits::fit_of_pairs` meets its contract. The loop: the terms of the pairs of the left terms from place i on are tested. Assumes nothing.
use mathlib.Core.List.{[]}
use Prim.Native.Nat.{◌-◌, ◌≤◌}
use lib.ListN.{drop}
use Rattle.integers.proofs.Machine.{back_is}
use Rattle.specification.specs.Reduction.{product_terms}
use Rattle.theory.specs.Elements.{All}
use Rattle.terms.proofs.Arrays.{all-at}
use Rattle.rows.specs.Rows.{RowValid, run_of}
use Rattle.rows.proofs.Runs.{run_length}
use Rattle.pairing.specs.Parts.{parts_of}
use Rattle.pair_limits.specs.Limits.{FitOf, Paired}
use Rattle.pair_limits.proofs.Largest.{in_front_lem, from-the_first}
use Rattle.pair_limits.proofs.Fitting.{at_row, pairs_none, pairs_more}
use native.Mathlib.Omega.{arith}
use Rattle.pair_limits.proofs.fit_of_pairs.Given as goal

abbrev pub invariant-loop-i : goal.invariant-loop-i
invariant-loop-i l = (l.i ≤ l.n) × FitOf (product_terms (parts_of l.op) (drop l.i (run_of l.n l.rows l.coefs)) (run_of l.m l.right l.rights)) l.fit
