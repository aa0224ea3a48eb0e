-- `record_writing::write_joined` meets its contract: after i turns the letters of those of the first i factors stand that have so many letters. Assumes nothing.
use mathlib.Core.Path.{◌≡◌, refl, ◌∙◌}
use mathlib.Core.Logic.{⊎_elim}
use Prim.Native.Nat.{ℕ, ◌+◌, ◌≤◌, ◌<◌, ◌-◌}
use native.Mathlib.Omega.{arith}
use lib.ListN.{length, take}
use Rattle.specification.specs.Lists.{joined}
use Rattle.specification.specs.Records.{factors_of}
use Rattle.terms.specs.Abstraction.{term_of}
use Rattle.record_writing.specs.Written.{Written}
use Rattle.record_writing.proofs.Writes.{written_none}
use Rattle.terms.proofs.Arrays.{all-at}
use Rattle.record_writing.proofs.Factors.{sized, joined-none, joined-room, joined_written, joined_same}
use Rattle.record_writing.proofs.write_joined.Given as goal

abbrev pub invariant-loop-i : goal.invariant-loop-i
invariant-loop-i l = (l.i ≤ l.n) × (length l.out ≡ length l.initial.out) × Written l.initial.out l.out l.at l.next (joined (sized l.size (take l.i l.t.factors)))
