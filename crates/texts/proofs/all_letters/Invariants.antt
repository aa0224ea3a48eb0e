-- `texts::all_letters` meets its contract. The loop: all are letters exactly if those from i on are. Assumes nothing.
use mathlib.Core.Path.{◌≡◌, refl, sym, ◌∙◌}
use Prim.Native.Nat.{◌-◌}
use native.Mathlib.Omega.{arith}
use borrow.Author.Tests.{not-true, not-false}
use lib.ListN.{length, drop}
use Rattle.specification.specs.Lists.{all}
use Rattle.specification.specs.Text.{is_letter}
use Rattle.texts.proofs.Naming.{letter-missing, letter-there, letters-end}
use Rattle.texts.proofs.all_letters.Given as goal

abbrev pub invariant-loop-b : goal.invariant-loop-b
invariant-loop-b l = all is_letter l.names ≡ all is_letter (drop l.b-index l.names)
