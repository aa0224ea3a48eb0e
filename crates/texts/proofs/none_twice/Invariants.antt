-- `texts::none_twice` meets its contract. The loop: none stands twice exactly if none of those from i on does. Assumes nothing.
use mathlib.Core.Path.{◌≡◌, refl, sym, ◌∙◌}
use Prim.Native.Nat.{◌-◌}
use native.Mathlib.Omega.{arith}
use lib.ListN.{length, drop}
use Rattle.specification.specs.Text.{distinct}
use Rattle.texts.proofs.Naming.{found-behind, none_behind, distinct-end}
use Rattle.texts.proofs.none_twice.Given as goal

abbrev pub invariant-loop-i : goal.invariant-loop-i
invariant-loop-i l = distinct l.names ≡ distinct (drop l.i l.names)
