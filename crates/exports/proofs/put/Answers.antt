-- `exports::put` meets its contract: three stores put the three numbers in front. Assumes nothing.
use native.Mathlib.Omega.{arith}
use lib.ListN.{length-set}
use Rattle.integers.proofs.Machine.{back_is}
use Rattle.exports.proofs.Returning.{three-stores}
use Rattle.exports.proofs.put.Goals as goal

pub bounds-values-1 : goal.bounds-values-1
bounds-values-1 c = simp length-set (omega arith)

pub returns : goal.returns
returns c =
    three-stores c.args.values.now c.args.v _ _ _ c.requires
    (back_is (record { sfits = c.struct_told-1.given.0.1 }))
    (back_is (record { sfits = c.struct_told-2-1.given.1.0.1 }))
    (back_is (record { sfits = c.struct_told-3-1.given.1.1.0.1 }))
