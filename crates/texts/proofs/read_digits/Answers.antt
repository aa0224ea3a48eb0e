-- `texts::read_digits` meets its contract. The loop's invariant: what is read from here on with the number so far is the whole, of which the number is
-- capped (`DigitsAt`). The measure is what is left of the text. Assumes nothing.
use Rattle.std.proofs.Common.{rules}
use mathlib.Core.Path.{sym, ◌∙◌}
use Prim.Native.Nat.{◌-◌}
use native.Mathlib.Omega.{arith}
use mathlib.Core.Logic.{inl, inr}
use lib.ListN.{length}
use borrow.Author.Tests.{not-true, not-false}
use Rattle.texts.proofs.Standing.{DigitsAt, digits-small, digits-begin, digit-from, digits_more, digits-stop, no_digit-behind, passed-to_end}
use Rattle.texts.proofs.read_digits.Goals as goal

pub loop-i-init : goal.loop-i-init
loop-i-init c = digits-begin _ _

pub is_digit-requires : goal.is_digit-requires
is_digit-requires c = tt

pub returns-then-not-is_digit : goal.returns-then-not-is_digit
returns-then-not-is_digit c = let w = digits-stop _ _ _ _ c.loop-i.invariant (sym c.is_digit.ensures ∙ c.if-not-is_digit.true) in record { value = w.0; next = w.1 }

pub overflow_mul-n : goal.overflow_mul-n
overflow_mul-n c = omega (arith, digits-small _ _ _ _ c.loop-i.invariant)

pub overflow_sub-b : goal.overflow_sub-b
overflow_sub-b c = digit-from _ _ c.is_digit.ensures c.if-not-is_digit.false

pub overflow_cast-b : goal.overflow_cast-b
overflow_cast-b c = omega (arith, c.type_inv.s c.loop-i.i)

pub overflow_add-n : goal.overflow_add-n
overflow_add-n c = omega (arith, c.type_inv.s c.loop-i.i, digits-small _ _ _ _ c.loop-i.invariant)

pub cap-n-requires : goal.cap-n-requires
cap-n-requires c = tt

pub loop-i-preserved : goal.loop-i-preserved
loop-i-preserved c = digits_more _ _ _ _ _ _ c.loop-i.invariant c.is_digit.ensures c.if-not-is_digit.false c.cap-n.ensures

pub returns : goal.returns
returns c =
    let w = digits-stop _ _ _ _ c.loop-i.invariant (no_digit-behind c.args.s.now c.loop-i.i c.loop-i-test.false) in
    elim (passed-to_end c.args.s.now c.args.at c.loop-i.i _ c.loop-i-test.false c.loop-i.auto.i c.loop-i.auto.i-end c.max.ensures) [
      | inl e ↦ record { value = w.0; next = e ∙ w.1 }
      | inr e ↦ record { value = w.0; next = e.0 ∙ (digits-stop _ _ _ _ (digits-begin c.args.s.now c.args.at) (no_digit-behind c.args.s.now c.args.at e.1)).1 }
    ]
