-- `formulas::joining::front_at` meets its contract. Assumes nothing.
use Rattle.formulas.proofs.Marks.{sign-inside, front-other, front_none, front-sign}
use Rattle.formulas.proofs.joining.front_at.Goals as goal

pub returns-then-level-ne4 : goal.returns-then-level-ne4
returns-then-level-ne4 c = front-other _ _ _ c.if-level-ne4.true

pub returns-then-not-is_sign : goal.returns-then-not-is_sign
returns-then-not-is_sign c =
    let c1 = c in
    let c2 = c in
    let c3 = c in
    let c5 = c in
    front_none c5.args.s.now c5.args.at _ _ _ c3.if-level-ne4.false c2.byte_at.ensures c1.is_sign.ensures c.if-not-is_sign.true

pub behind-requires : goal.behind-requires
behind-requires c =
    let c1 = c in
    let c2 = c in
    let c5 = c in
    sign-inside c5.args.s.now c5.args.at _ _ c2.byte_at.ensures c1.is_sign.ensures c.if-not-is_sign.false

pub returns : goal.returns
returns c =
    let c1 = c in
    let c2 = c in
    let c3 = c in
    let c4 = c in
    let c6 = c in
    front-sign c6.args.s.now c6.args.at _ _ _ c4.if-level-ne4.false c3.byte_at.ensures c2.is_sign.ensures _ c1.if-not-is_sign.false
    c.behind.ensures
