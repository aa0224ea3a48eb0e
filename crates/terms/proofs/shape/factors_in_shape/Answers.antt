-- `terms::shape::factors_in_shape`. The loop: all factors are in shape and ascend exactly if those from factor i on are and do behind the last one seen. Assumes nothing.
use Rattle.std.proofs.Common.{rules}
use mathlib.Core.Path.{◌≡◌, refl, sym, ◌∙◌}
use Prim.Native.Nat.{◌-◌, ◌≤◌}
use native.Mathlib.Omega.{arith}
use lib.ListN.{length, take, drop}
use borrow.Author.Tests.{not-true, not-false}
use Rattle.terms.proofs.InShape.{shape_from, shape_is, shape-back, shape-bad, shape_more, shape-end}
use Rattle.terms.proofs.shape.factors_in_shape.Goals.{Start}
use Rattle.terms.proofs.shape.factors_in_shape.Goals as goal

room : (c : Start) → c.args.n ≤ length c.args.f.now
room c = omega (arith, c.requires.1)

pub loop-i-init : goal.loop-i-init
loop-i-init c = (omega arith, omega arith, refl)

pub bounds-f-i : goal.bounds-f-i
bounds-f-i c = omega (arith, c.requires.1)

pub returns-then-k-last : goal.returns-then-k-last
returns-then-k-last c = let w = c in sym (shape_is _ ∙ w.loop-i.invariant.2 ∙ shape-back _ _ _ _ (room (goal.at.returns-then-k-last c).Start) c.loop-i-test.true c.if-k-last.true)

pub factor_in_shape-requires : goal.factor_in_shape-requires
factor_in_shape-requires c = tt

pub returns-then-not-factor_in_shape : goal.returns-then-not-factor_in_shape
returns-then-not-factor_in_shape c =
    let w = c in
    sym
    (shape_is _ ∙ w.loop-i.invariant.2 ∙ shape-bad _ _ _ _ (room (goal.at.returns-then-not-factor_in_shape c).Start) c.loop-i-test.true c.if-k-last.false
    (sym c.factor_in_shape.ensures ∙ c.if-not-factor_in_shape.true))

pub loop-i-preserved : goal.loop-i-preserved
loop-i-preserved c =
    let w = c in (
      omega arith,
      w.loop-i.invariant.1,
      w.loop-i.invariant.2 ∙ shape_more _ _ _ _ (room (goal.at.loop-i-preserved c).Start) c.loop-i-test.true c.if-k-last.false
          (sym c.factor_in_shape.ensures ∙ c.if-not-factor_in_shape.false),
    )

pub returns : goal.returns
returns c = let w = c in sym (shape_is _ ∙ w.loop-i.invariant.2 ∙ shape-end _ _ _ _ (room (goal.at.returns c).Start) c.loop-i-test.false)
