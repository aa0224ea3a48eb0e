-- `formulas::reading::read_text` meets its contract. Assumes nothing.
use Rattle.std.proofs.Common.{rules}
use Rattle.refusal.proofs.Passing.{passed_up}
use Rattle.formulas.proofs.Whole.{text-long, text-unread, text-left, text-worked, text-unworked}
use Rattle.formulas.proofs.reading.read_text.Goals as goal

pub returns-then-n-gt-TEXT_BYTES : goal.returns-then-n-gt-TEXT_BYTES
returns-then-n-gt-TEXT_BYTES c = text-long c.args.names.now c.args.table.now c.args.s.now _ _ c.if-n-gt-TEXT_BYTES.true

pub returns-in_err-r : goal.returns-in_err-r
returns-in_err-r c =
    rw (passed_up _ _ c.from_residual.ensures.1)
    (text-unread c.args.names.now c.args.table.now c.args.s.now c.if-n-gt-TEXT_BYTES.false _ c.past_blanks-start.ensures _ _ _ c.in_err-r.ensures)

pub returns-then-r-n : goal.returns-then-r-n
returns-then-r-n c =
    text-left c.args.names.now c.args.table.now c.args.s.now c.if-n-gt-TEXT_BYTES.false _ c.past_blanks-start.ensures _ _ _ c.in_ok-r.ensures
    c.if-r-n.true

pub returns-in-Ok : goal.returns-in-Ok
returns-in-Ok c =
    text-worked c.args.names.now c.args.table.now c.args.s.now c.if-n-gt-TEXT_BYTES.false _ c.past_blanks-start.ensures _ _ _ c.in_ok-r.ensures
    c.if-r-n.false _ c.in-Ok.is

pub returns-in-Err : goal.returns-in-Err
returns-in-Err c =
    text-unworked c.args.names.now c.args.table.now c.args.s.now c.if-n-gt-TEXT_BYTES.false _ c.past_blanks-start.ensures _ _ _ c.in_ok-r.ensures
    c.if-r-n.false _ c.in-Err.is
