-- `assignment_texts::numbers::read_component` meets its contract, by its digit and the byte behind it. Assumes nothing.
use native.Mathlib.Omega.{arith}
use Rattle.assignment_texts.proofs.Components.{component-torn, digit-inside, digit-least, component-beyond, component-long, component-there}
use Rattle.assignment_texts.proofs.numbers.read_component.Goals as goal

pub returns-then-not-is_digit : goal.returns-then-not-is_digit
returns-then-not-is_digit c =
    let a = c.args in
    component-torn a.line.now a.at _ _ _ _ c.byte_at-sign.ensures c.digit_at-first.ensures c.byte_at-b.ensures c.is_digit.ensures
    c.if-not-is_digit.true

pub returns-then-b-gt54 : goal.returns-then-b-gt54
returns-then-b-gt54 c =
    let a = c.args in
    component-beyond a.line.now a.at _ _ _ _ c.byte_at-sign.ensures c.digit_at-first.ensures c.byte_at-b.ensures c.is_digit.ensures
    c.if-not-is_digit.false
    c.if-b-gt54.true

pub overflow_add-first : goal.overflow_add-first
overflow_add-first c =
    let a = c.args in
    let inside =
    digit-inside a.line.now a.at _ _ _ _ c.byte_at-sign.ensures c.digit_at-first.ensures c.byte_at-b.ensures c.is_digit.ensures
    c.if-not-is_digit.false in
    omega (arith, inside)

pub returns-then-is_digit : goal.returns-then-is_digit
returns-then-is_digit c =
    let a = c.args in
    component-long a.line.now a.at _ _ _ _ c.byte_at-sign.ensures c.digit_at-first.ensures c.byte_at-b.ensures c.is_digit.ensures
    c.if-not-is_digit.false c.if-b-gt54.false _ _ c.byte_at.ensures c.is_digit-2.ensures
    c.if-is_digit.true

pub overflow_sub-b : goal.overflow_sub-b
overflow_sub-b c =
    let a = c.args in
    digit-least a.line.now a.at _ _ _ _ c.byte_at-sign.ensures c.digit_at-first.ensures c.byte_at-b.ensures c.is_digit.ensures
    c.if-not-is_digit.false

pub behind-next-requires : goal.behind-next-requires
behind-next-requires c =
    let a = c.args in
    digit-inside a.line.now a.at _ _ _ _ c.byte_at-sign.ensures c.digit_at-first.ensures c.byte_at-b.ensures c.is_digit.ensures
    c.if-not-is_digit.false

pub returns : goal.returns
returns c =
    let a = c.args in
    component-there a.line.now a.at _ _ _ _ c.byte_at-sign.ensures c.digit_at-first.ensures c.byte_at-b.ensures c.is_digit.ensures
    c.if-not-is_digit.false c.if-b-gt54.false _ _ c.byte_at.ensures c.is_digit-2.ensures _ _ c.if-is_digit.false c.signed_byte-byte.ensures
    c.behind-next.ensures
