-- `formulas::joining::operate` meets its contract by the level. Assumes nothing.
use Rattle.formulas.proofs.Results.{operates-wedge, operates-dot, operates-times, operates-minus, operates-plus}
use Rattle.formulas.proofs.joining.operate.Goals as goal

pub returns-then-level-eq1 : goal.returns-then-level-eq1
returns-then-level-eq1 c = operates-wedge _ _ _ _ _ _ _ c.if-level-eq1.true c.wedge.ensures

pub returns-then-level-eq2 : goal.returns-then-level-eq2
returns-then-level-eq2 c = operates-dot _ _ _ _ _ _ _ c.if-level-eq2.true c.dot.ensures

pub returns-then-level-eq3 : goal.returns-then-level-eq3
returns-then-level-eq3 c = operates-times _ _ _ _ _ _ _ c.if-level-eq3.true c.times.ensures

pub returns-then-b-eq45 : goal.returns-then-b-eq45
returns-then-b-eq45 c =
    let c3 = c in
    let c7 = c in
    let c8 = c in
    let c9 = c in
    let c10 = c in
    operates-minus _ _ _ _ _ _ _ c10.if-level-eq1.false c9.if-level-eq2.false c8.if-level-eq3.false c7.if-b-eq45.true c3.difference.ensures

pub returns : goal.returns
returns c =
    let c2 = c in
    let c6 = c in
    let c7 = c in
    let c8 = c in
    let c9 = c in
    operates-plus _ _ _ _ _ _ _ c9.if-level-eq1.false c8.if-level-eq2.false c7.if-level-eq3.false c6.if-b-eq45.false c2.sum.ensures
