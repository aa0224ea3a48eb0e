-- `text_cases::print_form`: the text that is written lies inside the bytes lent. Assumes nothing.
use Rattle.std.proofs.Common.{rules}
use mathlib.Core.Path.{refl, sym}
use native.Mathlib.Omega.{arith}
use lib.Seq.{length-take-le}
use Rattle.std.specs.Prelude.{Ok}
use Rattle.named_printing.proofs.Calls.{text-inside}
use Rattle.text_cases.proofs.print_form.Goals as goal

pub slice_bounds-out-end : goal.slice_bounds-out-end
slice_bounds-out-end c =
    omega (arith, text-inside _ _ _ _ _ (Ok c.in-Ok.m) c.in-Ok.m c.in-Ok.ensures refl, c.print_named.auto.out)

pub slice_bounds-write_all-end : goal.slice_bounds-write_all-end
slice_bounds-write_all-end c =
    sym (length-take-le _ _ (text-inside _ _ _ _ _ (Ok c.in-Ok.m) c.in-Ok.m c.in-Ok.ensures refl))
