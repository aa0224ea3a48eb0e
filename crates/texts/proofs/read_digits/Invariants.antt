-- `texts::read_digits` meets its contract. The loop's invariant: what is read from here on with the number so far is the whole, of which the number is
-- capped (`DigitsAt`). The measure is what is left of the text. Assumes nothing.
use mathlib.Core.Path.{sym, ◌∙◌}
use Prim.Native.Nat.{◌-◌}
use native.Mathlib.Omega.{arith}
use lib.ListN.{length}
use borrow.Author.Tests.{not-true, not-false}
use Rattle.texts.proofs.Standing.{DigitsAt, digits-small, digits-begin, digit-from, digits_more, digits-stop, no_digit-behind}
use Rattle.texts.proofs.read_digits.Given as goal

abbrev pub invariant-loop-i : goal.invariant-loop-i
invariant-loop-i l = DigitsAt l.s l.at l.n l.i
