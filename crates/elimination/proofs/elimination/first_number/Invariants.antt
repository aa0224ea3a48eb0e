-- `elimination::elimination::first_number` meets its contract: no number below v leaves a summand. Assumes nothing.
use mathlib.Core.Path.{◌≡◌}
use mathlib.Core.Bool.{false}
use Prim.Native.Nat.{ℕ, ◌≤◌, ◌<◌}
use lib.ListN.{take}
use Rattle.polynomials.specs.Summands.{substituted, is_some}
use Rattle.polynomials.specs.Memory.{summands}
use Rattle.elimination.proofs.elimination.first_number.Given as goal

abbrev pub invariant-loop-v : goal.invariant-loop-v
invariant-loop-v l = (l.v ≤ l.most) × ((u : ℕ) → u < l.v → is_some (substituted l.d u (take l.n (summands l.work))) ≡ false)
