-- `marking::marking::factors_mark`. The loop: the sum is the mark of the factors from factor i on, and leaves room for those before. Assumes nothing.
use mathlib.Core.Path.{◌≡◌}
use Prim.Native.Nat.{◌+◌, ◌*◌, ◌≤◌}
use mathlib.Core.List.{map}
use lib.ListN.{take, drop}
use Rattle.terms.specs.Numbers.{letters_of}
use Rattle.marking.specs.Marks.{factors_mark}
use Rattle.marking.proofs.marking.factors_mark.Given as goal

abbrev pub invariant-loop-i : goal.invariant-loop-i
invariant-loop-i l = (l.i ≤ l.n) × ((l.a ≡ factors_mark (map letters_of (drop l.i (take l.n l.f)))) × (l.a + 15625000 * l.i ≤ 15625000 * l.n))
