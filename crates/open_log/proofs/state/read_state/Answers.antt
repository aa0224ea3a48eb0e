-- `open_log::state::read_state` meets its contract. Assumes nothing.
use mathlib.Core.Path.{sym, ◌∙◌}
use native.Mathlib.Omega.{arith}
use Rattle.open_log.proofs.StateBytes.{not_read, short_of_none, too_short, bad-table, part_short, too_many_taken, bad-form, state-is}
use Rattle.open_log.proofs.state.read_state.Goals as goal

pub returns-then-len-lt1 : goal.returns-then-len-lt1
returns-then-len-lt1 c = not_read _ (too_short c.args.s.now (short_of_none c.args.s.now c.if-len-lt1.true))

pub overflow_cast-n : goal.overflow_cast-n
overflow_cast-n c = omega (arith, c.type_inv.s 0)

pub overflow_add-n : goal.overflow_add-n
overflow_add-n c = omega (arith, c.type_inv.s 0)

pub returns-then-len-n : goal.returns-then-len-n
returns-then-len-n c = not_read _ (too_short c.args.s.now c.if-len-n.true)

pub returns-then-is_err : goal.returns-then-is_err
returns-then-is_err c =
    not_read _ (bad-table c.args.s.now c.if-len-n.false _ c.check_table.ensures (sym c.is_err.ensures.value ∙ c.if-is_err.true))

pub returns-then-count-gt64 : goal.returns-then-count-gt64
returns-then-count-gt64 c =
    not_read _ (too_many_taken c.args.s.now c.if-len-n.false _ c.check_table.ensures (sym c.is_err.ensures.value ∙ c.if-is_err.false) c.if-count-gt64.true)

pub returns-in_default : goal.returns-in_default
returns-in_default c =
    not_read _ (bad-form c.args.s.now c.if-len-n.false _ c.check_table.ensures (sym c.is_err.ensures.value ∙ c.if-is_err.false) c.if-count-gt64.false _
    c.in_default.ensures)

pub table_of-requires : goal.table_of-requires
table_of-requires c = part_short c.args.s.now c.if-len-n.false _ c.check_table.ensures (sym c.is_err.ensures.value ∙ c.if-is_err.false)

pub returns : goal.returns
returns c =
    state-is c.args.s.now c.if-len-n.false _ c.check_table.ensures (sym c.is_err.ensures.value ∙ c.if-is_err.false) c.if-count-gt64.false _ c.in-Ok.ensures _
    c.table_of.ensures
