-- `verdicts::tell_step_reason` meets its contract, number by number. Assumes nothing.
use Rattle.verdicts.proofs.Words.{reason-else}
use Rattle.telling.proofs.Pieces.{tells_as}
use mathlib.Core.Path.{sym, ap}
use Rattle.specification.specs.Words.{bytes}
use Rattle.specification.specs.Commands.{step_reason}
use Rattle.verdicts.proofs.tell_step_reason.Goals as goal

pub returns-then-n-eq5 : goal.returns-then-n-eq5
unfolding step_reason bytes
returns-then-n-eq5 c = tells_as _ (ap step_reason (sym c.if-n-eq5.true)) c.put.ensures

pub returns-then-n-eq6 : goal.returns-then-n-eq6
unfolding step_reason bytes
returns-then-n-eq6 c = tells_as _ (ap step_reason (sym c.if-n-eq6.true)) c.put-then-n-eq6.ensures

pub returns-then-n-eq8 : goal.returns-then-n-eq8
unfolding step_reason bytes
returns-then-n-eq8 c = tells_as _ (ap step_reason (sym c.if-n-eq8.true)) c.put-then-n-eq8.ensures

pub returns-then-n-eq9 : goal.returns-then-n-eq9
unfolding step_reason bytes
returns-then-n-eq9 c = tells_as _ (ap step_reason (sym c.if-n-eq9.true)) c.put-then-n-eq9.ensures

pub returns-then-n-eq10 : goal.returns-then-n-eq10
unfolding step_reason bytes
returns-then-n-eq10 c = tells_as _ (ap step_reason (sym c.if-n-eq10.true)) c.put-then-n-eq10.ensures

pub returns-then-n-eq11 : goal.returns-then-n-eq11
unfolding step_reason bytes
returns-then-n-eq11 c = tells_as _ (ap step_reason (sym c.if-n-eq11.true)) c.put-then-n-eq11.ensures

pub returns-then-n-eq13 : goal.returns-then-n-eq13
unfolding step_reason bytes
returns-then-n-eq13 c = tells_as _ (ap step_reason (sym c.if-n-eq13.true)) c.put-then-n-eq13.ensures

pub returns-then-n-eq14 : goal.returns-then-n-eq14
unfolding step_reason bytes
returns-then-n-eq14 c = tells_as _ (ap step_reason (sym c.if-n-eq14.true)) c.put-then-n-eq14.ensures

pub returns : goal.returns
unfolding bytes
returns c =
    tells_as _ (reason-else _ c.if-n-eq5.false c.if-n-eq6.false c.if-n-eq8.false c.if-n-eq9.false c.if-n-eq10.false
    c.if-n-eq11.false c.if-n-eq13.false c.if-n-eq14.false)
    c.put-2.ensures
