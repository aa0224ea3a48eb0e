-- `polynomials::expansion::times_factors` meets its contract: the summands after k factors stand from `start` on. Assumes nothing.
use mathlib.Core.Path.{◌≡◌}
use lib.ListN.{length}
use Rattle.polynomials.specs.Memory.{summands}
use Rattle.polynomials.proofs.Expansions.{Turned}
use Rattle.polynomials.proofs.expansion.times_factors.Given as goal

abbrev pub invariant-loop-k : goal.invariant-loop-k
invariant-loop-k l = (length l.work ≡ length l.initial.work) × Turned l.start l.t (summands l.initial.work) l.k l.n (summands l.work)
