-- `leaves::alone` meets its contract: the row of the term in the first place. Assumes nothing.
use Rattle.std.proofs.Common.{rules}
use Rattle.integers.proofs.Machine.{back_is}
use Rattle.leaves.proofs.Single.{alone-gives}
use native.Mathlib.Omega.{arith}
use Rattle.leaves.proofs.alone.Goals as goal

pub row_of-requires : goal.row_of-requires
row_of-requires c = c.requires.0

pub returns : goal.returns
returns c =
    let p = c.requires in alone-gives _ c.args.t _ _ c.args.rows.now
    c.args.coefs.now p.1 c.row_of.ensures (back_is (record { sfits = search rules })) p.2 p.3
