-- `sums::results::close` meets its contract: the limits tested, then the rows copied. Assumes nothing.
use Rattle.std.proofs.Common.{rules}
use native.Mathlib.Omega.{arith}
use Rattle.refusal.proofs.Passing.{passed_up}
use Rattle.sums.proofs.Closing.{limits-stop, copies-give}
use Rattle.sums.proofs.results.close.Goals as goal

pub test_limits-requires : goal.test_limits-requires
test_limits-requires c = (c.requires.0.run.beside, λ h. absurd (omega (arith, h)))

pub returns-in_err-test_limits : goal.returns-in_err-test_limits
returns-in_err-test_limits c = rw (passed_up _ _ c.from_residual.ensures.1) (limits-stop _ _ _ _ c.requires.0 _ c.in_err-test_limits.ensures _ _)

pub copy-requires : goal.copy-requires
copy-requires c =
    let p = c.requires in let h = c.in_ok-test_limits.ensures.few in
    (p.0.run.room, p.0.run.beside, omega arith, omega arith)

pub returns : goal.returns
returns c =
    let h = c.in_ok-test_limits.ensures.few in
    copies-give _ _ _ _ c.requires.0 _ c.in_ok-test_limits.ensures _ _ (omega arith) (omega arith) c.copy.ensures
