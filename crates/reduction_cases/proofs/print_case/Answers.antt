use mathlib.Core.Path.{refl, sym}
use Rattle.std.specs.Prelude.{Ok}
use Rattle.reduction.proofs.KeptValue.{reduce_keeps_value}
use lib.Seq.{length-take-le}
use native.Mathlib.Omega.{arith}
use Rattle.reduction_cases.proofs.print_case.Goals as goal

pub slice_bounds-out-end : goal.slice_bounds-out-end
slice_bounds-out-end c = omega (arith, (reduce_keeps_value _ _ _ _ (Ok c.in-Ok.n) c.in-Ok.n c.in-Ok.ensures refl).short)

pub slice_bounds-print_form-end : goal.slice_bounds-print_form-end
slice_bounds-print_form-end c =
    sym (length-take-le _ _ (omega (arith, (reduce_keeps_value _ _ _ _ (Ok c.in-Ok.n) c.in-Ok.n c.in-Ok.ensures refl).short, c.reduce.auto.out)))
