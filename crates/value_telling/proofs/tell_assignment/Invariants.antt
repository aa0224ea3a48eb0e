-- `value_telling::tell_assignment` meets its contract. The loop's invariant: the names so far are told, and those left follow (`EntriesTold`). Assumes nothing.
use mathlib.Core.Path.{◌≡◌}
use Prim.Native.Nat.{◌-◌}
use lib.ListN.{length}
use Rattle.value_telling.proofs.Entries.{EntriesTold}
use Rattle.value_telling.proofs.tell_assignment.Given as goal

abbrev pub invariant-loop-i : goal.invariant-loop-i
invariant-loop-i l = EntriesTold l.initial.out l.out l.at l.next l.names l.table l.s l.i × (length l.out ≡ length l.initial.out)
