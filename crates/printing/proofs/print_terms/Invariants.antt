-- `printing::print_terms` meets its contract: before each turn the terms from i on are left, and there are 29 bytes of room for each. Assumes nothing.
use Prim.Native.Nat.{◌+◌, ◌-◌, ◌*◌, ◌≤◌}
use lib.ListN.{length}
use Rattle.symbols.proofs.Progress.{UnderWay}
use Rattle.printing.proofs.Texts.{terms_from}
use Rattle.printing.proofs.print_terms.Given as goal

abbrev pub invariant-loop-i : goal.invariant-loop-i
invariant-loop-i l = (1 ≤ l.i) × (l.next + 29 * (l.n - l.i) ≤ length l.out) × UnderWay l.initial.out l.out l.at l.next (terms_from l.names l.f.terms l.n 1) (terms_from l.names l.f.terms l.n l.i)
