-- `decision_cases::run`. The loop: nothing is to be kept; each case ends behind where it began, so the bytes left become fewer. Assumes nothing.
use Rattle.std.proofs.Common.{rules}
use mathlib.Core.Path.{◌≡◌, refl, ◌∙◌}
use Prim.Native.Nat.{◌-◌}
use native.Mathlib.Omega.{arith}
use lib.ListN.{length}
use Rattle.decision_cases.proofs.run.Goals as goal

pub loop-at-init : goal.loop-at-init
loop-at-init c = (refl, refl)

pub loop-at-smaller : goal.loop-at-smaller
loop-at-smaller c = omega (arith, c.case_at-at.ensures)

pub loop-at-preserved : goal.loop-at-preserved
loop-at-preserved c =
    let i = c.loop-at.invariant in
    (c.case_at-at.auto.buffer ∙ i.0, c.case_at-at.auto.work ∙ i.1)

pub shape_of-buffer : goal.shape_of-buffer
shape_of-buffer c = c.loop-at.invariant.0

pub shape_of-work : goal.shape_of-work
shape_of-work c = c.loop-at.invariant.1
