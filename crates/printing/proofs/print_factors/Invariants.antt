-- `printing::print_factors` meets its contract: before each turn the factors from i on are left, and there is room for them. Assumes nothing.
use Prim.Native.Nat.{◌+◌, ◌≤◌, ◌-◌}
use lib.ListN.{length}
use Rattle.terms.specs.Abstraction.{term_of}
use Rattle.symbols.specs.Text.{print_factors}
use Rattle.symbols.proofs.Progress.{UnderWay}
use Rattle.printing.proofs.Texts.{factors_from}
use Rattle.printing.proofs.print_factors.Given as goal

abbrev pub invariant-loop-i : goal.invariant-loop-i
invariant-loop-i l = (l.i ≤ l.n) × (l.next + length (factors_from l.names l.t.factors l.n l.i) ≤ length l.out)
    × UnderWay l.initial.out l.out l.at l.next (print_factors l.names (term_of l.t)) (factors_from l.names l.t.factors l.n l.i)
