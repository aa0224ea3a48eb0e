-- `telling::put_blanks` meets its contract. The loop's invariant: as many blanks are told as turns are done. Assumes nothing.
use mathlib.Core.Path.{refl, ◌∙◌, ap}
use native.Mathlib.Omega.{arith}
use Rattle.specification.specs.Commands.{blanks}
use Rattle.telling.proofs.Pieces.{tells_as, blanks-begin, blanks_more}
use Rattle.telling.proofs.put_blanks.Goals as goal

pub loop-init : goal.loop-init
loop-init c = (blanks-begin _ _, refl)

pub put_byte-next-requires : goal.put_byte-next-requires
put_byte-next-requires c = tt

pub loop-preserved : goal.loop-preserved
loop-preserved c = (blanks_more _ c.loop.invariant.0 c.put_byte-next.ensures, c.put_byte-next.auto.out ∙ c.loop.invariant.1)

pub shape_of-out : goal.shape_of-out
shape_of-out c = c.loop.invariant.1

pub returns : goal.returns
returns c = tells_as _ (ap blanks (omega arith)) c.loop.invariant.0
