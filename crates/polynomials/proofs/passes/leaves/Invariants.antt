-- `polynomials::passes::leaves` meets its contract: no summand is left of those passed but the one under way. Assumes nothing.
use mathlib.Core.List.{[]}
use Prim.Native.Nat.{◌≤◌}
use lib.ListN.{take}
use Rattle.polynomials.specs.Memory.{summands}
use Rattle.polynomials.proofs.Turns.{Passing}
use Rattle.polynomials.proofs.passes.leaves.Given as goal

abbrev pub invariant-loop-i : goal.invariant-loop-i
invariant-loop-i l = (l.i ≤ l.n) × Passing l.d l.v (take l.n (summands l.work)) [] l.i l.key l.coef
