-- `logs::reading::letters_at` meets its contract: the first letters are those of the log. Assumes nothing.
use mathlib.Core.Path.{◌≡◌, refl, subst, ◌∙◌}
use Prim.Native.Nat.{ℕ, ◌-◌, ◌≤◌}
use native.Mathlib.Omega.{arith}
use lib.ListN.{length, length-set, take, drop}
use Rattle.logs.proofs.StepRecords.{letter-copied}
use Rattle.logs.proofs.reading.letters_at.Given as goal

abbrev pub invariant-loop-i : goal.invariant-loop-i
invariant-loop-i l = (l.i ≤ l.n) × (length l.letters ≡ 6) × (take l.i l.letters ≡ take l.i (drop l.at l.s))
