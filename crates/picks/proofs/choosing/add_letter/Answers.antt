use native.Mathlib.Omega.{arith}
use lib.Seq.{length-take-le}
use Rattle.picks.proofs.Pools.{adds-many, adds_one}
use Rattle.picks.proofs.choosing.add_letter.Goals as goal

pub returns-then-n-gt6 : goal.returns-then-n-gt6
returns-then-n-gt6 c = let w = c in adds-many _ _ _ w.requires.1 w.requires.2 c.if-n-gt6.true

pub put_at-requires : goal.put_at-requires
put_at-requires c = let w = c in (
  omega (
    arith,
    c.place-i.ensures.inside,
    length-take-le w.args.n
        w.args.pool.now (omega (arith, w.requires.0, w.requires.1)),
  ),
  omega (arith, c.if-n-gt6.false),
  w.requires.1,
)

pub returns : goal.returns
returns c = let w = c in adds_one _ _ _ _ _ w.requires.2 (omega (
  arith,
  c.if-n-gt6.false,
)) c.place-i.ensures c.put_at.ensures
