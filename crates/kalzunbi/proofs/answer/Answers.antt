-- `kalzunbi::answer`: what is written lies inside the bytes that the answer was written into. Assumes nothing.
use native.Mathlib.Omega.{arith}
use mathlib.Core.Path.{sym}
use lib.Seq.{length-take-le}
use Rattle.command.proofs.Copies.{answered-inside}
use Rattle.kalzunbi.proofs.answer.Goals as goal

pub slice_bounds-out-end : goal.slice_bounds-out-end
slice_bounds-out-end c =
    omega (
      arith,
      answered-inside _ _ _ _ _ _ c.command.ensures c.in-Ok.is,
      c.command.auto.out,
      c.large_buffer-out.ensures,
    )

pub slice_bounds-write_all-end-2 : goal.slice_bounds-write_all-end-2
slice_bounds-write_all-end-2 c = sym (length-take-le _ _ (answered-inside _ _ _ _ _ _ c.command.ensures c.in-Ok.is))
