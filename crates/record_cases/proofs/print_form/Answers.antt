use Rattle.std.proofs.Common.{rules}
use Rattle.theory.proofs.Records.Lengths.{form_short}
use mathlib.Core.Path.{sym}
use lib.Seq.{length-take-le}
use Rattle.records.proofs.Inside.{written_inside}
use native.Mathlib.Omega.{arith}
use Rattle.record_cases.proofs.print_form.Goals as goal

pub write_form-n-requires : goal.write_form-n-requires
write_form-n-requires c = (c.requires, omega (arith, c.requires.few))

pub slice_bounds-out-end : goal.slice_bounds-out-end
slice_bounds-out-end c = omega (arith, c.write_form-n.ensures.ends, form_short _ (c.requires.in_shape))

pub slice_bounds-print_bytes-end : goal.slice_bounds-print_bytes-end
slice_bounds-print_bytes-end c = let w = c.write_form-n.ensures in sym (length-take-le _ _ (written_inside _ _ _ _ w.ends w.bytes))
