-- `polynomials::memory::put` meets its contract. Assumes nothing.
use mathlib.Core.Path.{ap, ◌∙◌}
use native.Mathlib.Omega.{arith}
use mir.Syntax.{w64}
use mir.Val.{of_z}
use Rattle.integers.proofs.Machine.{back_is}
use Rattle.polynomials.proofs.Bytes.{within, summand-put}
use Rattle.polynomials.proofs.memory.put.Goals as goal

pub overflow_mul-at : goal.overflow_mul-at
overflow_mul-at c = omega (arith, within _ _ c.requires)

pub put8-requires : goal.put8-requires
put8-requires c = omega (arith, within _ _ c.requires)

pub overflow_add-at : goal.overflow_add-at
overflow_add-at c = omega (arith, within _ _ c.requires)

pub put8-requires-2 : goal.put8-requires-2
put8-requires-2 c = omega (arith, within _ _ c.requires)

pub returns : goal.returns
returns c =
    let w = c in
    summand-put w.args.work.now _ _ w.args.i w.args.key _ _ w.requires w.ranges.key.fits w.ranges.coef
    c.put8.ensures c.put8-2.ensures
    (c.cast_unsigned.ensures ∙ ap (of_z w64) (back_is w.ranges.coef))
