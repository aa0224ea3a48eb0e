-- `assignment_texts::read_name` meets its contract, by what stands there. Assumes nothing.
use Rattle.texts.proofs.Standing.{letter-inside}
use Rattle.assignment_texts.proofs.Turns.{name-torn, name-unknown, name-twice, name_new}
use Rattle.assignment_texts.proofs.read_name.Goals as goal

pub returns-then-not-is_letter : goal.returns-then-not-is_letter
returns-then-not-is_letter c =
    let a = c.args in
    name-torn a.names.now a.line.now a.at a.so.now _ c.byte_at-b.ensures _ c.is_letter.ensures
    c.if-not-is_letter.true

pub returns-then-n-names : goal.returns-then-n-names
returns-then-n-names c =
    let a = c.args in
    name-unknown a.names.now a.line.now a.at a.so.now _ c.byte_at-b.ensures _ c.is_letter.ensures
    c.if-not-is_letter.false _ c.place_of-n.ensures
    c.if-n-names.true

pub returns-then-byte_at-ne127 : goal.returns-then-byte_at-ne127
returns-then-byte_at-ne127 c =
    let a = c.args in
    name-twice a.names.now a.line.now a.at a.so.now _ c.byte_at-b.ensures _ c.is_letter.ensures
    c.if-not-is_letter.false _ c.place_of-n.ensures c.if-n-names.false _ c.byte_at.ensures
    c.if-byte_at-ne127.true

pub behind-next-requires : goal.behind-next-requires
behind-next-requires c =
    let a = c.args in
    letter-inside a.line.now a.at _ _ c.byte_at-b.ensures c.is_letter.ensures c.if-not-is_letter.false

pub returns : goal.returns
returns c =
    let a = c.args in
    name_new a.names.now a.line.now a.at a.so.now _ c.byte_at-b.ensures _ c.is_letter.ensures c.if-not-is_letter.false
    _ c.place_of-n.ensures c.if-n-names.false _ c.byte_at.ensures _ c.if-byte_at-ne127.false c.behind-next.ensures
