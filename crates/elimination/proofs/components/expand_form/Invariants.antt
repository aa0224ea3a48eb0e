-- `elimination::components::expand_form` meets its contract: the terms before k are expanded. Assumes nothing.
use mathlib.Core.Path.{◌≡◌}
use lib.ListN.{length}
use Rattle.polynomials.specs.Memory.{summands}
use Rattle.elimination.proofs.Differences.{Filled}
use Rattle.elimination.proofs.components.expand_form.Given as goal

abbrev pub invariant-loop-k : goal.invariant-loop-k
invariant-loop-k l = (length l.work ≡ length l.initial.work) × Filled l.start l.f l.i l.sign l.k l.n (summands l.initial.work) (summands l.work)
