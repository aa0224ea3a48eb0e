-- `assignment_texts::numbers::signed_byte` meets its contract, by the sign and the size. Assumes nothing.
use Rattle.assignment_texts.proofs.Components.{byte-plain, byte_zero, byte_below}
use Rattle.assignment_texts.proofs.numbers.signed_byte.Goals as goal

pub returns-then-not-minus : goal.returns-then-not-minus
returns-then-not-minus c =
    let a = c.args in
    byte-plain a.minus a.size c.if-not-minus.true

pub returns-then-size-lt1 : goal.returns-then-size-lt1
returns-then-size-lt1 c =
    let a = c.args in
    byte_zero a.minus a.size c.if-not-minus.false c.if-size-lt1.true

pub returns : goal.returns
returns c =
    let a = c.args in
    byte_below a.minus a.size c.if-not-minus.false c.if-size-lt1.false c.requires
