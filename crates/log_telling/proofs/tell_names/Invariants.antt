-- `log_telling::tell_names` meets its contract. The loop's invariant: the names so far are told, and those that are left follow (`NamesTold`). Assumes nothing.
use mathlib.Core.Path.{◌≡◌}
use Prim.Native.Nat.{◌-◌}
use lib.ListN.{length}
use Rattle.log_telling.proofs.Pieces.{NamesTold}
use Rattle.log_telling.proofs.tell_names.Given as goal

abbrev pub invariant-loop-i : goal.invariant-loop-i
invariant-loop-i l = NamesTold l.initial.out l.out l.at l.next l.kind l.names l.table l.last l.i × (length l.out ≡ length l.initial.out)
