-- `printer::main`: what is written lies inside the bytes lent. Assumes nothing.
use Rattle.std.proofs.Common.{rules}
use mathlib.Core.Path.{sym}
use native.Mathlib.Omega.{arith}
use lib.Seq.{length-take-le}
use Rattle.printer_call.proofs.Answers.{printed-inside}
use Rattle.printer.proofs.main.Goals as goal

pub slice_bounds-out-end : goal.slice_bounds-out-end
slice_bounds-out-end c = omega (arith, printed-inside _ _ _ _ _ c.print.ensures c.in-Ok.is, c.print.auto.out)

pub slice_bounds-write_all-end : goal.slice_bounds-write_all-end
slice_bounds-write_all-end c = sym (length-take-le _ _ (printed-inside _ _ _ _ _ c.print.ensures c.in-Ok.is))
