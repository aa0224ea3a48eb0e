-- `rules::admissible::test_rule_letters` meets its contract: the letters from the place reached on decide what all decide. Assumes nothing.
use mathlib.Core.Path.{◌≡◌, refl, sym, ◌∙◌}
use Prim.Native.Nat.{◌-◌, ◌≤◌}
use native.Mathlib.Omega.{arith}
use lib.ListN.{length, take, drop}
use Rattle.specification.specs.Letters.{vector, test_letters}
use Rattle.rules.proofs.Alone.{letters-stop, letters-pass, letters-end}
use Rattle.rules.proofs.admissible.test_rule_letters.Given as goal

abbrev pub invariant-loop-i : goal.invariant-loop-i
invariant-loop-i l = (l.i ≤ l.n) × (test_letters l.table vector (take l.n l.letters) ≡ test_letters l.table vector (drop l.i (take l.n l.letters)))
