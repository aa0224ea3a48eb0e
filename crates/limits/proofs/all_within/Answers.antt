-- `limits::all_within` meets its contract: the coefficients from the place reached on decide what all decide. Assumes nothing.
use Rattle.std.proofs.Common.{rules}
use mathlib.Core.Path.{◌≡◌, refl, ap, sym, ◌∙◌}
use Prim.Native.Nat.{◌-◌, ◌≤◌}
use native.Mathlib.Omega.{arith}
use borrow.Author.Tests.{not-true, not-false}
use lib.IntN.{pos}
use lib.ListN.{take, drop, get_or}
use Rattle.specification.specs.Terms.{coef_within}
use Rattle.specification.specs.Lists.{all}
use Rattle.integers.proofs.Machine.{back_is}
use Rattle.limits.proofs.Limits.{beyond-at, inside-at, inside-to_end}
use Rattle.limits.proofs.all_within.Goals.{After-within}
use Rattle.limits.proofs.all_within.Goals as goal

-- the test is of the coefficient at the place
small : (c : After-within) → c.within.result ≡ coef_within (get_or c.args.coefs.now
    c.loop-i.i (pos 0))
small c = c.within.ensures ∙ ap coef_within (back_is (record { sfits = c.within-arg-1.given }))

pub loop-i-init : goal.loop-i-init
loop-i-init c = (omega arith, refl)

pub returns-then-not-within : goal.returns-then-not-within
returns-then-not-within c = let v = c.loop-i in let a = c in sym (beyond-at _ _ a.requires v.i
    c.loop-i-test.true v.invariant.1 _ (small (goal.at.returns-then-not-within c).After-within) c.if-not-within.true)

pub loop-i-preserved : goal.loop-i-preserved
loop-i-preserved c = let v = c.loop-i in let a = c in (
  omega arith,
  inside-at _ _ a.requires
      v.i c.loop-i-test.true v.invariant.1 _ (small (goal.at.loop-i-preserved c).After-within) c.if-not-within.false,
)

pub returns : goal.returns
returns c = let v = c.loop-i in let a = c in sym (inside-to_end _ _ a.requires v.i c.loop-i-test.false v.invariant.1)
