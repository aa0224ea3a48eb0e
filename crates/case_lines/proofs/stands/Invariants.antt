-- `case_lines::stands` meets its contract: the bytes before i are the filling. Assumes nothing.
use mathlib.Core.Path.{◌≡◌}
use Prim.Native.Nat.{ℕ, ◌<◌}
use lib.ListN.{get_or}
use Rattle.case_lines.specs.Filling.{filling}
use Rattle.case_lines.proofs.stands.Given as goal

abbrev pub invariant-loop-i : goal.invariant-loop-i
invariant-loop-i l = (x : ℕ) → x < l.i → get_or l.s x 0 ≡ filling
