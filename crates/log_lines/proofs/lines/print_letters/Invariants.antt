-- `log_lines::lines::print_letters` meets its contract: before each turn the letters from i on are left, with two bytes of room for each. Assumes nothing.
use Prim.Native.Nat.{◌+◌, ◌-◌, ◌*◌, ◌≤◌}
use lib.ListN.{length}
use Rattle.symbols.proofs.Progress.{UnderWay}
use Rattle.log_lines.proofs.Texts.{letters_from}
use Rattle.log_lines.proofs.lines.print_letters.Given as goal

abbrev pub invariant-loop-i : goal.invariant-loop-i
invariant-loop-i l =
    (l.next + 2 * (l.n - l.i) ≤ length l.out)
    × UnderWay l.initial.out l.out l.at l.next (letters_from l.names l.letters l.n 0) (letters_from l.names l.letters l.n l.i)
