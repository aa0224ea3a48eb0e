-- `formulas::joining::operand_at` meets its contract. Assumes nothing.
use Rattle.formulas.proofs.Marks.{on_inside, operand-behind, operand-beside, operand-star}
use Rattle.formulas.proofs.joining.operand_at.Goals as goal

pub behind-requires : goal.behind-requires
behind-requires c = on_inside c.args.s.now c.args.at _ c.requires

pub returns-then-level-ne3 : goal.returns-then-level-ne3
returns-then-level-ne3 c = operand-behind _ _ _ _ c.if-level-ne3.true c.behind.ensures

pub returns-then-byte_at-ne42 : goal.returns-then-byte_at-ne42
returns-then-byte_at-ne42 c =
    let c1 = c in
    let c2 = c in
    let c4 = c in
    operand-beside c4.args.s.now c4.args.at _ _ c2.if-level-ne3.false c1.byte_at.ensures c.if-byte_at-ne42.true

pub behind-requires-2 : goal.behind-requires-2
behind-requires-2 c = on_inside c.args.s.now c.args.at _ c.requires

pub returns : goal.returns
returns c =
    let c1 = c in
    let c2 = c in
    let c3 = c in
    let c5 = c in
    operand-star c5.args.s.now c5.args.at _ _ _ c3.if-level-ne3.false c2.byte_at.ensures c1.if-byte_at-ne42.false c.behind-2.ensures
