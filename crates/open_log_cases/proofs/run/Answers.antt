-- `open_log_cases::run`. The loop: the memory of the state keeps its length; each call ends behind where it began, so the bytes left become fewer. Assumes nothing.
use Rattle.std.proofs.Common.{rules}
use mathlib.Core.Path.{◌≡◌, refl, ◌∙◌}
use Prim.Native.Nat.{◌-◌}
use native.Mathlib.Omega.{arith}
use lib.ListN.{length}
use Rattle.open_log_cases.proofs.run.Goals as goal

pub loop-at-init : goal.loop-at-init
loop-at-init c = refl

pub loop-at-smaller : goal.loop-at-smaller
loop-at-smaller c = omega (arith, c.call_at-next.ensures)

pub loop-at-preserved : goal.loop-at-preserved
loop-at-preserved c = c.call_at-next.auto.held ∙ c.loop-at.invariant

pub shape_of-held : goal.shape_of-held
shape_of-held c = c.loop-at.invariant
