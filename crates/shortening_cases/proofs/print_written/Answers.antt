-- `shortening_cases::print_written` is safe and ends. Assumes nothing.
use Rattle.std.proofs.Common.{rules}
use mathlib.Core.Path.{sym}
use native.Mathlib.Omega.{arith}
use lib.Seq.{length-take-le}
use Rattle.shortening_cases.proofs.print_written.Goals as goal

pub slice_bounds-print_log-end : goal.slice_bounds-print_log-end
slice_bounds-print_log-end c = sym (length-take-le _ _ (omega arith))
