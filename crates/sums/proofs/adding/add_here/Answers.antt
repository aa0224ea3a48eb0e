-- `sums::adding::add_here` meets its contract: the rows brought in where the others stand, then the limits tested. Assumes nothing.
use Rattle.std.proofs.Common.{rules}
use Rattle.refusal.proofs.Passing.{passed_up}
use Rattle.sums.proofs.Closing.{limits-stop, limits-give}
use Rattle.sums.proofs.Sums.{sum-gathered, sum_gives}
use native.Mathlib.Omega.{arith}
use Rattle.sums.proofs.adding.add_here.Goals as goal

pub bring_rows-count-requires : goal.bring_rows-count-requires
bring_rows-count-requires c = let p = c.requires in (p.0.run, p.0.light, record { kind = _; form = p.1 }, p.2, p.3)

pub test_limits-requires : goal.test_limits-requires
test_limits-requires c = (c.bring_rows-count.ensures.run.beside, λ h. absurd (omega (arith, h)))

pub returns-in_err-test_limits : goal.returns-in_err-test_limits
returns-in_err-test_limits c =
    let p = c.requires in let b = c.bring_rows-count.ensures in
    rw (passed_up _ _ c.from_residual.ensures.1)
    (sum_gives _ _ _ _ _ _ _ p.0 p.1 _ _ _ b _ _ _ (limits-stop _ _ _ _ (sum-gathered _ _ _ _ _ _ _ p.0 p.1 _ _ _ b) _ c.in_err-test_limits.ensures _ _))

pub returns : goal.returns
returns c =
    let p = c.requires in let b = c.bring_rows-count.ensures in
    sum_gives _ _ _ _ _ _ _ p.0 p.1 _ _ _ b _ _ _ (limits-give _ _ _ _ (sum-gathered _ _ _ _ _ _ _ p.0 p.1 _ _ _ b) _ c.in_ok-test_limits.ensures)
