-- `assignment_texts::read_assigned` meets its contract. The loop's invariant: what is left to be read is the whole (`AssignedFrom`). Assumes nothing.
use mathlib.Core.Path.{◌≡◌}
use Prim.Native.Nat.{◌*◌, ◌-◌}
use lib.ListN.{length}
use Rattle.assignment_texts.proofs.Turns.{AssignedFrom}
use Rattle.assignment_texts.proofs.read_assigned.Given as goal

abbrev pub invariant-loop : goal.invariant-loop
invariant-loop l = AssignedFrom l.names l.table l.line l.so (length l.line - l.counter) l.at × (length l.so ≡ 3 * length l.table)
