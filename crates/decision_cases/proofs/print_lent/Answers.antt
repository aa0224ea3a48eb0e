-- `decision_cases::print_lent` is safe and ends. Assumes nothing.
use Rattle.std.proofs.Common.{rules}
use mathlib.Core.Path.{sym}
use lib.Seq.{length-take-le}
use Rattle.decision_cases.proofs.print_lent.Goals as goal

pub slice_bounds-print_case-end-2 : goal.slice_bounds-print_case-end-2
slice_bounds-print_case-end-2 c = sym (length-take-le _ _ c.requires.0)

pub slice_bounds-print_case-end-4 : goal.slice_bounds-print_case-end-4
slice_bounds-print_case-end-4 c = sym (length-take-le _ _ c.requires.1)
