-- `polynomials::expansion::spread` meets its contract: i summands are written. Assumes nothing.
use mathlib.Core.Path.{◌≡◌}
use mathlib.Core.List.{map}
use Prim.Native.Nat.{◌≤◌}
use lib.ListN.{length, take, drop}
use Rattle.integers.specs.Over.{over}
use Rattle.polynomials.specs.Expansion.{times_piece}
use Rattle.polynomials.specs.Memory.{summands}
use Rattle.polynomials.proofs.expansion.spread.Given as goal

abbrev pub invariant-loop-i : goal.invariant-loop-i
invariant-loop-i l = (length l.work ≡ length l.initial.work) × (l.i ≤ l.n) × (summands l.work ≡ over (summands l.initial.work) l.to (map (times_piece l.p) (take l.i (drop l.from (summands l.initial.work)))))
