-- `sides::read_sides` meets its contract. Assumes nothing.
use Rattle.sides.proofs.Lines.{sign-there, sign-missing}
use Rattle.sides.proofs.read_sides.Goals as goal

pub returns-then-at-line : goal.returns-then-at-line
returns-then-at-line c = sign-there _ _ _ _ c.place_of-at.ensures _ c.if-at-line.true c.both_sides.ensures

pub returns : goal.returns
returns c =
    let a = c.args in sign-missing a.names.now a.table.now a.line.now _ c.place_of-at.ensures c.if-at-line.false
