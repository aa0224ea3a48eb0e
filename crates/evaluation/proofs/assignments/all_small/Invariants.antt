-- `evaluation::assignments::all_small` meets its contract: the bytes from i on decide. Assumes nothing.
use mathlib.Core.Path.{◌≡◌}
use Prim.Native.Nat.{◌≤◌}
use lib.ListN.{length, drop}
use Rattle.specification.specs.Lists.{all}
use Rattle.specification.specs.Evaluation.{six_or_less}
use Rattle.evaluation.proofs.assignments.all_small.Given as goal

abbrev pub invariant-loop-b : goal.invariant-loop-b
invariant-loop-b l = (l.b-index ≤ length l.s) × (all six_or_less l.s ≡ all six_or_less (drop l.b-index l.s))
