-- `open_log::decide_open` meets its contract. Assumes nothing.
use native.Mathlib.Omega.{arith}
use Rattle.open_log.proofs.OpenCalls.{decide-unread, parts-fit, decide-parts}
use Rattle.open_log.proofs.decide_open.Goals as goal

pub returns-in-Err : goal.returns-in-Err
returns-in-Err c = decide-unread _ _ _ _ _ c.in-Err.ensures

-- the table and the form's record are parts of the bytes
pub bounds-s-0 : goal.bounds-s-0
bounds-s-0 c = omega (arith, parts-fit _ c.args.form.now c.args.buffer.now c.args.work.now _ c.in_default.ensures)

pub overflow_add-end : goal.overflow_add-end
overflow_add-end c = omega (arith, c.type_inv.s 0)

pub overflow_add-start : goal.overflow_add-start
overflow_add-start c = omega (arith, c.type_inv.s 0)

pub slice_bounds-decide-end : goal.slice_bounds-decide-end
slice_bounds-decide-end c = omega (arith, parts-fit _ c.args.form.now c.args.buffer.now c.args.work.now _ c.in_default.ensures)

pub slice_bounds-decide-count-2 : goal.slice_bounds-decide-count-2
slice_bounds-decide-count-2 c = omega (arith, parts-fit _ c.args.form.now c.args.buffer.now c.args.work.now _ c.in_default.ensures)

pub slice_bounds-decide-start-2 : goal.slice_bounds-decide-start-2
slice_bounds-decide-start-2 c = omega (arith, parts-fit _ c.args.form.now c.args.buffer.now c.args.work.now _ c.in_default.ensures)

pub returns : goal.returns
returns c = decide-parts _ _ _ _ _ c.in_default.ensures _ _ _ c.decide.ensures
