-- `polynomials::passes::least` meets its contract: d is the least digit of the keys passed. Assumes nothing.
use mathlib.Core.Path.{◌≡◌}
use Prim.Native.Nat.{◌≤◌}
use lib.ListN.{take, drop}
use Rattle.polynomials.specs.Memory.{summands}
use Rattle.polynomials.specs.Passes.{least_from}
use Rattle.polynomials.proofs.passes.least.Given as goal

abbrev pub invariant-loop-i : goal.invariant-loop-i
invariant-loop-i l = (l.i ≤ l.n) × (least_from l.d (drop l.i (take l.n (summands l.work))) ≡ least_from 0 (take l.n (summands l.work)))
