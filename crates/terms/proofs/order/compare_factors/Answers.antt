-- `terms::order::compare_factors`. The loop: the first k factors agree, so the first difference is among those from factor k on. Assumes nothing.
use Rattle.std.proofs.Common.{rules}
use mathlib.Core.Path.{◌≡◌, refl, sym, ◌∙◌}
use Prim.Native.Nat.{◌-◌, ◌≤◌}
use native.Mathlib.Omega.{arith}
use lib.ListN.{length, take, drop}
use Rattle.specification.specs.Lists.{order, first_difference}
use Rattle.terms.specs.Abstraction.{ordering_of}
use Rattle.terms.proofs.Orders.{first_less, first_more, first_later, first-none}
use Rattle.terms.proofs.order.compare_factors.Goals.{Start}
use Rattle.terms.proofs.order.compare_factors.Goals as goal

len-f : (c : Start) → c.args.n ≤ length c.args.f.now
len-f c = omega (arith, c.requires.1)

len-g : (c : Start) → c.args.n ≤ length c.args.g.now
len-g c = omega (arith, c.requires.2)

pub loop-k-init : goal.loop-k-init
loop-k-init c = (omega arith, refl)

pub bounds-f-k : goal.bounds-f-k
bounds-f-k c = omega (arith, c.requires.1, c.requires.2)

pub bounds-g-k : goal.bounds-g-k
bounds-g-k c = omega (arith, c.requires.1, c.requires.2)

pub returns-then-f-k : goal.returns-then-f-k
unfolding ordering_of
returns-then-f-k c =
    let w = c in
    sym (w.loop-k.invariant.1 ∙ first_less _ _ _ _ (len-f (goal.at.returns-then-f-k c).Start) (len-g (goal.at.returns-then-f-k c).Start) c.loop-k-test.true c.if-f-k.true)

pub bounds-g-k-in-loop-k : goal.bounds-g-k-in-loop-k
bounds-g-k-in-loop-k c = omega (arith, c.requires.1, c.requires.2)

pub bounds-f-k-in-loop-k : goal.bounds-f-k-in-loop-k
bounds-f-k-in-loop-k c = omega (arith, c.requires.1, c.requires.2)

pub returns-then-g-k : goal.returns-then-g-k
unfolding ordering_of
returns-then-g-k c =
    let w = c in
    sym
    (w.loop-k.invariant.1 ∙ first_more _ _ _ _ (len-f (goal.at.returns-then-g-k c).Start) (len-g (goal.at.returns-then-g-k c).Start) c.loop-k-test.true
    c.if-g-k.true)

pub loop-k-preserved : goal.loop-k-preserved
loop-k-preserved c =
    let w = c in (
      omega arith,
      w.loop-k.invariant.1 ∙ first_later _ _ _ _ (len-f (goal.at.loop-k-preserved c).Start) (len-g (goal.at.loop-k-preserved c).Start) c.loop-k-test.true c.if-g-k.false
          c.if-f-k.false,
    )

pub returns : goal.returns
unfolding ordering_of
returns c = let w = c in sym (w.loop-k.invariant.1 ∙ first-none _ _ _ _ (len-f (goal.at.returns c).Start) (len-g (goal.at.returns c).Start) c.loop-k-test.false)
