-- `telling::put` meets its contract. Assumes nothing.
use native.Mathlib.Omega.{arith}
use Rattle.telling.proofs.Pieces.{put-beyond, put_short, put_all}
use Rattle.telling.proofs.put.Goals as goal

pub returns-then-at-n : goal.returns-then-at-n
returns-then-at-n c = put-beyond _ _ _ c.if-at-n.true

pub returns-then-m-n : goal.returns-then-m-n
returns-then-m-n c = put_short _ _ _ c.if-at-n.false c.if-m-n.true

pub returns : goal.returns
returns c = put_all _ _ _ c.if-at-n.false c.if-m-n.false _ _ c.copy_from_slice.ensures.after c.copy_from_slice.ensures.len
