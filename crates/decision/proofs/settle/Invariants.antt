-- `decision::settle` meets its contract: of the components before i, the first numbers under which one differs are kept. Assumes nothing.
use mathlib.Core.Path.{◌≡◌}
use Prim.Native.Nat.{ℕ, ◌≤◌}
use lib.ListN.{length}
use Rattle.terms.specs.Abstraction.{form_of}
use Rattle.elimination.specs.Differences.{difference}
use Rattle.firsts.specs.Keeping.{SoFar}
use Rattle.decision.proofs.settle.Given as goal

abbrev pub invariant-loop-i : goal.invariant-loop-i
invariant-loop-i l = (length l.buffer ≡ length l.initial.buffer) × (length l.work ≡ length l.initial.work) × SoFar l.table (λ (j : ℕ). difference j (form_of l.f) (form_of l.g)) l.i l.found l.initial.buffer l.buffer × (l.i ≤ l.m)
