-- `sides::both_sides` meets its contract. Assumes nothing.
use Rattle.std.proofs.Common.{rules}
use Rattle.refusal.proofs.Passing.{passed_up}
use mathlib.Core.Path.{sym}
use native.Mathlib.Omega.{arith}
use lib.Seq.{length-take-le}
use Rattle.formula_lines.proofs.Forms.{names-named}
use Rattle.sides.proofs.Lines.{first_refused, column_inside, second_refused, both_given}
use Rattle.sides.proofs.both_sides.Goals as goal

pub slice_bounds-form_of_text-end : goal.slice_bounds-form_of_text-end
slice_bounds-form_of_text-end c = sym (length-take-le _ _ (omega (arith, c.requires.1)))

pub form_of_text-requires : goal.form_of_text-requires
form_of_text-requires c = names-named _ _ c.requires.0

pub returns-in_err-f : goal.returns-in_err-f
returns-in_err-f c = rw (passed_up _ _ c.from_residual.ensures.1) (first_refused _ _ c.args.line.now c.args.at _ c.in_err-f.ensures)

pub form_of_text-requires-2 : goal.form_of_text-requires-2
form_of_text-requires-2 c = names-named _ _ c.requires.0

pub overflow_add-result : goal.overflow_add-result
overflow_add-result c = omega (arith, column_inside _ _ c.args.line.now c.args.at _ c.in_ok-f.ensures _ c.in-Err.ensures c.requires.1)

pub returns-in-Err : goal.returns-in-Err
returns-in-Err c = second_refused _ _ c.args.line.now c.args.at _ c.in_ok-f.ensures _ c.in-Err.ensures

pub pair-requires : goal.pair-requires
pair-requires c = (c.in_ok-f.ensures.valid, c.in-Ok.ensures.valid)

pub returns-in-Ok : goal.returns-in-Ok
returns-in-Ok c = both_given _ _ c.args.line.now c.args.at _ c.in_ok-f.ensures _ c.in-Ok.ensures _ c.requires.0 c.pair.ensures
