-- `shortening_cases::run`. The loop: nothing is to be kept; each case ends behind where it began, so the bytes left become fewer. Assumes nothing.
use Rattle.std.proofs.Common.{rules}
use mathlib.Core.Path.{◌≡◌, refl, ◌∙◌}
use Prim.Native.Nat.{◌-◌}
use native.Mathlib.Omega.{arith}
use lib.ListN.{length}
use Rattle.shortening_cases.proofs.run.Goals as goal

pub loop-at-init : goal.loop-at-init
loop-at-init c = refl

pub loop-at-smaller : goal.loop-at-smaller
loop-at-smaller c = omega (arith, c.case_at-at.ensures)

pub loop-at-preserved : goal.loop-at-preserved
loop-at-preserved c = c.case_at-at.auto.out ∙ c.loop-at.invariant

pub shape_of-out : goal.shape_of-out
shape_of-out c = c.loop-at.invariant
