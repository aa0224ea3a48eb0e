-- `polynomials::passes::substitute` meets its contract: what is written stands in front, and what was not read yet is as it was. Assumes nothing.
use mathlib.Core.Path.{◌≡◌}
use lib.ListN.{length}
use Rattle.polynomials.specs.Memory.{summands}
use Rattle.polynomials.proofs.Turns.{Writing}
use Rattle.polynomials.proofs.passes.substitute.Given as goal

abbrev pub invariant-loop-i : goal.invariant-loop-i
invariant-loop-i l = (length l.work ≡ length l.initial.work) × Writing l.d l.v l.n (summands l.initial.work) (summands l.work) l.i l.j l.key l.coef
