-- `text_cases::print_case`: the record that is printed lies inside the bytes lent. Assumes nothing.
use Rattle.std.proofs.Common.{rules}
use mathlib.Core.Path.{refl, sym}
use native.Mathlib.Omega.{arith}
use lib.Seq.{length-take-le}
use Rattle.std.specs.Prelude.{Ok}
use Rattle.formula_call.proofs.Calls.{record-inside}
use Rattle.text_cases.proofs.print_case.Goals as goal

pub slice_bounds-out-end : goal.slice_bounds-out-end
slice_bounds-out-end c =
    omega (arith, record-inside _ _ _ _ _ _ _ (Ok c.in-Ok.n) c.in-Ok.n c.in-Ok.ensures refl, c.read_formula.auto.out)

pub slice_bounds-print_form-end : goal.slice_bounds-print_form-end
slice_bounds-print_form-end c =
    sym (length-take-le _ _ (record-inside _ _ _ _ _ _ _ (Ok c.in-Ok.n) c.in-Ok.n c.in-Ok.ensures refl))
