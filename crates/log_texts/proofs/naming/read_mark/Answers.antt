-- `log_texts::naming::read_mark` meets its contract: the byte stands, or another. Assumes nothing.
use Rattle.log_texts.proofs.Marks.{mark-other, mark-inside, mark-there}
use Rattle.log_texts.proofs.naming.read_mark.Goals as goal

pub returns-then-byte_at-b : goal.returns-then-byte_at-b
returns-then-byte_at-b c =
    let a = c.args in
    mark-other a.b a.line.now a.at _ c.byte_at.ensures c.if-byte_at-b.true

pub behind-requires : goal.behind-requires
behind-requires c =
    let a = c.args in
    mark-inside a.b a.line.now a.at _ c.byte_at.ensures c.requires c.if-byte_at-b.false

pub returns : goal.returns
returns c =
    let a = c.args in
    mark-there a.b a.line.now a.at _ c.byte_at.ensures _ c.requires c.if-byte_at-b.false c.behind.ensures
