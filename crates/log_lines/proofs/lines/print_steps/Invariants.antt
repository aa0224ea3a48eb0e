-- `log_lines::lines::print_steps` meets its contract: before each turn the steps from i on are left, with 55 bytes of room for each. Assumes nothing.
use Prim.Native.Nat.{◌+◌, ◌-◌, ◌*◌, ◌≤◌}
use lib.ListN.{length}
use Rattle.symbols.proofs.Progress.{UnderWay}
use Rattle.log_lines.proofs.Texts.{steps_from}
use Rattle.log_lines.proofs.lines.print_steps.Given as goal

abbrev pub invariant-loop-i : goal.invariant-loop-i
invariant-loop-i l =
    (l.next + 55 * (l.n - l.i) ≤ length l.out)
    × UnderWay l.initial.out l.out l.at l.next (steps_from l.names l.q.steps l.n 0) (steps_from l.names l.q.steps l.n l.i)
