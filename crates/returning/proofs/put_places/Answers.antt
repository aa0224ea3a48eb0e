-- `returning::put_places` meets its contract: three stores put the three places in front. Assumes nothing.
use native.Mathlib.Omega.{arith}
use lib.ListN.{length-set}
use Rattle.returning.proofs.Numbers.{place-stores}
use Rattle.returning.proofs.put_places.Goals as goal

pub bounds-places-1 : goal.bounds-places-1
bounds-places-1 c = simp length-set (omega arith)

pub returns : goal.returns
returns c = place-stores c.args.places.now c.args.a c.args.b c.args.n c.requires
