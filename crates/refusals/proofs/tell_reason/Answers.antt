-- `refusals::tell_reason` meets its contract, number by number. Assumes nothing.
use Rattle.specification.specs.Commands.{reason}
use Rattle.specification.specs.Words.{bytes}
use mathlib.Core.Path.{sym, ap}
use Rattle.telling.proofs.Pieces.{tells_as}
use Rattle.refusals.proofs.Texts.{reason-else}
use Rattle.refusals.proofs.tell_reason.Goals as goal

pub returns-then-n-eq1 : goal.returns-then-n-eq1
unfolding reason bytes
returns-then-n-eq1 c = tells_as _ (ap reason (sym c.if-n-eq1.true)) c.put.ensures

pub returns-then-n-eq2 : goal.returns-then-n-eq2
unfolding reason bytes
returns-then-n-eq2 c = tells_as _ (ap reason (sym c.if-n-eq2.true)) c.put-then-n-eq2.ensures

pub returns-then-n-eq3 : goal.returns-then-n-eq3
unfolding reason bytes
returns-then-n-eq3 c = tells_as _ (ap reason (sym c.if-n-eq3.true)) c.put-then-n-eq3.ensures

pub returns-then-n-eq4 : goal.returns-then-n-eq4
unfolding reason bytes
returns-then-n-eq4 c = tells_as _ (ap reason (sym c.if-n-eq4.true)) c.put-then-n-eq4.ensures

pub returns-then-n-eq5 : goal.returns-then-n-eq5
unfolding reason bytes
returns-then-n-eq5 c = tells_as _ (ap reason (sym c.if-n-eq5.true)) c.put-then-n-eq5.ensures

pub returns-then-n-eq6 : goal.returns-then-n-eq6
unfolding reason bytes
returns-then-n-eq6 c = tells_as _ (ap reason (sym c.if-n-eq6.true)) c.put-then-n-eq6.ensures

pub returns-then-n-eq7 : goal.returns-then-n-eq7
unfolding reason bytes
returns-then-n-eq7 c = tells_as _ (ap reason (sym c.if-n-eq7.true)) c.put-then-n-eq7.ensures

pub returns-then-n-eq8 : goal.returns-then-n-eq8
unfolding reason bytes
returns-then-n-eq8 c = tells_as _ (ap reason (sym c.if-n-eq8.true)) c.put-then-n-eq8.ensures

pub returns-then-n-eq9 : goal.returns-then-n-eq9
unfolding reason bytes
returns-then-n-eq9 c = tells_as _ (ap reason (sym c.if-n-eq9.true)) c.put-then-n-eq9.ensures

pub returns-then-n-eq10 : goal.returns-then-n-eq10
unfolding reason bytes
returns-then-n-eq10 c = tells_as _ (ap reason (sym c.if-n-eq10.true)) c.put-then-n-eq10.ensures

pub returns-then-n-eq11 : goal.returns-then-n-eq11
unfolding reason bytes
returns-then-n-eq11 c = tells_as _ (ap reason (sym c.if-n-eq11.true)) c.put-then-n-eq11.ensures

pub returns : goal.returns
unfolding bytes
returns c =
    let c2 = c in
    let c5 = c in
    let c6 = c in
    let c7 = c in
    let c8 = c in
    let c9 = c in
    let c10 = c in
    let c11 = c in
    let c12 = c in
    let c13 = c in
    let c14 = c in
    let c15 = c in
    tells_as _
    (reason-else _ c15.if-n-eq1.false c14.if-n-eq2.false c13.if-n-eq3.false c12.if-n-eq4.false c11.if-n-eq5.false c10.if-n-eq6.false c9.if-n-eq7.false c8.if-n-eq8.false
    c7.if-n-eq9.false c6.if-n-eq10.false c5.if-n-eq11.false)
    c2.put-2.ensures
