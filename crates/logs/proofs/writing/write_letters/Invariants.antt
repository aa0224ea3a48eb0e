-- `logs::writing::write_letters` meets its contract: after i turns the first i letters stand. Assumes nothing.
use mathlib.Core.Path.{◌≡◌, refl, ap, subst, ◌∙◌}
use Prim.Native.Nat.{ℕ, ◌+◌, ◌-◌, ◌≤◌}
use native.Mathlib.Omega.{arith}
use lib.Seq.{take-length}
use lib.ListN.{length, length-set, take}
use Rattle.record_writing.specs.Written.{Written}
use Rattle.logs.proofs.WrittenLogs.{letters_none, letter_written}
use Rattle.logs.proofs.writing.write_letters.Given as goal

abbrev pub invariant-loop-i : goal.invariant-loop-i
invariant-loop-i l = (l.i ≤ length l.letters) × (length l.out ≡ length l.initial.out) × Written l.initial.out l.out l.at (l.at + l.i) (take l.i l.letters)
