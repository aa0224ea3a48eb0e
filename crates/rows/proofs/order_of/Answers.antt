-- `rows::order_of` meets its contract: the numbers from the place reached on decide what all decide. Assumes nothing.
use Rattle.std.proofs.Common.{rules}
use mathlib.Core.Path.{◌≡◌, refl, sym, ◌∙◌}
use Prim.Native.Nat.{◌+◌, ◌-◌, ◌≤◌, ◌%◌}
use native.Mathlib.Omega.{arith}
use lib.ListN.{length, take, drop, get_or}
use Rattle.specification.specs.Lists.{order, first_difference}
use Rattle.terms.specs.Abstraction.{ordering_of}
use Rattle.terms.proofs.Orders.{first_less, first_more, first_later, first-none}
use Rattle.rows.proofs.RowTerms.{by_row}
use Rattle.rows.proofs.order_of.Goals.{Start}
use Rattle.rows.proofs.order_of.Goals as goal

len_a : (c : Start) → get_or c.args.a.now 0 0 % 8 + 1 ≤ length c.args.a.now
len_a c = omega (arith, c.requires.0)

len_b : (c : Start) → get_or c.args.a.now 0 0 % 8 + 1 ≤ length c.args.b.now
len_b c = omega (arith, c.requires.1)

pub loop-k-init : goal.loop-k-init
loop-k-init c = (omega arith, refl)

pub returns-then-a-k : goal.returns-then-a-k
unfolding ordering_of
returns-then-a-k c = λ x y. let w = c in sym (by_row _ _ w.requires.0 w.requires.1 x y
    ∙ w.loop-k.invariant.1 ∙ first_less _ _ _ _ (len_a (goal.at.returns-then-a-k c).Start) (len_b (goal.at.returns-then-a-k c).Start) c.loop-k-test.true
    c.if-a-k.true)

pub returns-then-b-k : goal.returns-then-b-k
unfolding ordering_of
returns-then-b-k c = λ x y. let w = c in sym (by_row _ _ w.requires.0
    w.requires.1 x y ∙ w.loop-k.invariant.1 ∙ first_more _ _ _ _ (len_a (goal.at.returns-then-b-k c).Start) (len_b (goal.at.returns-then-b-k c).Start)
    c.loop-k-test.true c.if-b-k.true)

pub loop-k-preserved : goal.loop-k-preserved
loop-k-preserved c = let w = c in (
  omega arith,
  w.loop-k.invariant.1
      ∙ first_later _ _ _ _ (len_a (goal.at.loop-k-preserved c).Start) (len_b (goal.at.loop-k-preserved c).Start) c.loop-k-test.true
      c.if-b-k.false c.if-a-k.false,
)

pub returns : goal.returns
unfolding ordering_of
returns c = λ x y. let w = c in sym (by_row _ _ w.requires.0 w.requires.1 x y ∙ w.loop-k.invariant.1
    ∙ first-none _ _ _ _ (len_a (goal.at.returns c).Start) (len_b (goal.at.returns c).Start) c.loop-k-test.false)
