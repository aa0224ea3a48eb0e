-- `polynomials::expansion::multiply` meets its contract: the products from j on are written. Assumes nothing.
use mathlib.Core.Path.{◌≡◌}
use Prim.Native.Nat.{◌+◌, ◌*◌, ◌≤◌}
use lib.ListN.{length, take, drop}
use Rattle.integers.specs.Over.{over}
use Rattle.polynomials.specs.Expansion.{count_of, pieces, times_pieces}
use Rattle.polynomials.specs.Memory.{summands}
use Rattle.polynomials.proofs.expansion.multiply.Given as goal

abbrev pub invariant-loop-j : goal.invariant-loop-j
invariant-loop-j l = (length l.work ≡ length l.initial.work) × (l.j ≤ count_of l.f) × (summands l.work ≡ over (summands l.initial.work) (l.start + l.j * l.n) (times_pieces (drop l.j (pieces l.f)) (take l.n (drop l.start (summands l.initial.work)))))
