-- `printer_cases::run`. The loop: nothing is to be kept; each case ends behind where it began, so the bytes left become fewer. Assumes nothing.
use Rattle.std.proofs.Common.{rules}
use native.Mathlib.Omega.{arith}
use Prim.Native.Nat.{◌-◌}
use lib.ListN.{length}
use Rattle.printer_cases.proofs.run.Goals as goal

pub loop-at-init : goal.loop-at-init
loop-at-init c = tt

pub case_at-at-requires : goal.case_at-at-requires
case_at-at-requires c = c.loop-at-test.true

pub loop-at-smaller : goal.loop-at-smaller
loop-at-smaller c = omega (arith, c.case_at-at.ensures)

pub loop-at-preserved : goal.loop-at-preserved
loop-at-preserved c = tt
