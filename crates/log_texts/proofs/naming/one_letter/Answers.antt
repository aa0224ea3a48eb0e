-- `log_texts::naming::one_letter` meets its contract, by what stands there. Assumes nothing.
use native.Mathlib.Omega.{arith}
use Rattle.texts.proofs.Standing.{letter-inside}
use Rattle.log_texts.proofs.Marks.{letter_none, letter-unknown, letter_known}
use Rattle.log_texts.proofs.naming.one_letter.Goals as goal

pub returns-then-not-is_letter : goal.returns-then-not-is_letter
returns-then-not-is_letter c =
    let a = c.args in
    letter_none a.names.now a.line.now a.at _ c.byte_at-b.ensures _ c.is_letter.ensures c.if-not-is_letter.true

pub returns-then-n-names : goal.returns-then-n-names
returns-then-n-names c =
    let a = c.args in
    letter-unknown a.names.now a.line.now a.at _ c.byte_at-b.ensures _ c.is_letter.ensures c.if-not-is_letter.false _
    c.place_of-n.ensures c.if-n-names.true

pub behind-next-requires : goal.behind-next-requires
behind-next-requires c =
    let a = c.args in
    letter-inside a.line.now a.at _ _ c.byte_at-b.ensures c.is_letter.ensures c.if-not-is_letter.false

pub overflow_cast-result : goal.overflow_cast-result
overflow_cast-result c =
    omega (arith, c.if-n-names.false, c.requires)

pub returns : goal.returns
returns c =
    let a = c.args in
    letter_known a.names.now a.line.now a.at _ c.byte_at-b.ensures _ c.is_letter.ensures c.if-not-is_letter.false _
    c.place_of-n.ensures _ c.if-n-names.false c.behind-next.ensures
