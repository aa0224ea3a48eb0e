-- `assignment_texts::numbers::digit_at` meets its contract, by what stands there. Assumes nothing.
use Rattle.assignment_texts.proofs.Components.{minus-inside, digit-behind, digit-here}
use Rattle.assignment_texts.proofs.numbers.digit_at.Goals as goal

pub behind-requires : goal.behind-requires
behind-requires c =
    let a = c.args in
    minus-inside a.line.now a.at _ c.byte_at.ensures c.if-byte_at-eq45.true

pub returns-then-byte_at-eq45 : goal.returns-then-byte_at-eq45
returns-then-byte_at-eq45 c =
    let a = c.args in
    digit-behind a.line.now a.at _ c.byte_at.ensures _ c.if-byte_at-eq45.true c.behind.ensures

pub returns : goal.returns
returns c =
    let a = c.args in
    digit-here a.line.now a.at _ c.byte_at.ensures c.if-byte_at-eq45.false
