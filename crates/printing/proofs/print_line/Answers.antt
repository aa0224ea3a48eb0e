-- `printing::print_line` meets its contract: the text and a newline. Assumes nothing.
use native.Mathlib.Omega.{arith}
use lib.ListN.{length-set}
use Rattle.printing.proofs.Texts.{line_written}
use Rattle.printing.proofs.print_line.Goals.{After-slice_known-2-1}
use Rattle.printing.proofs.print_line.Goals as goal

pub bounds-out-end : goal.bounds-out-end
bounds-out-end c =
    let s = c in
    (line_written s.args.names.now _ _ _ _ s.requires.0 s.requires.1 c.print_form-end.ensures).0

pub overflow_add-result : goal.overflow_add-result
overflow_add-result c = omega (arith, bounds-out-end (goal.at.overflow_add-result c).After-slice_known-2-1)

pub shape_of-out : goal.shape_of-out
shape_of-out c = simp length-set c.print_form-end.auto.out

pub returns : goal.returns
returns c =
    let s = c in
    (line_written s.args.names.now _ _ _ _ s.requires.0 s.requires.1 c.print_form-end.ensures).1
