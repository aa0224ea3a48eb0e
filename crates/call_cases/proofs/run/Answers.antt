-- `call_cases::run` is safe and ends: every case ends behind its position. Assumes nothing.
use Rattle.std.proofs.Common.{rules}
use Prim.Native.Nat.{◌-◌}
use native.Mathlib.Omega.{arith}
use lib.ListN.{length}
use Rattle.call_cases.proofs.run.Goals as goal

pub loop-at-init : goal.loop-at-init
loop-at-init c = tt

pub loop-at-smaller : goal.loop-at-smaller
loop-at-smaller c = omega (arith, c.case_at-at.ensures)

pub loop-at-preserved : goal.loop-at-preserved
loop-at-preserved c = tt
