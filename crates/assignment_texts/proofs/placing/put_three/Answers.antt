-- `assignment_texts::placing::put_three` meets its contract: three stores. Assumes nothing.
use Prim.Native.Nat.{◌+◌, ◌*◌}
use native.Mathlib.Omega.{arith}
use lib.ListN.{set, length-set}
use Rattle.assignment_texts.proofs.Stores.{three-stored}
use Rattle.assignment_texts.proofs.placing.put_three.Goals as goal

pub bounds-so-i-2 : goal.bounds-so-i-2
bounds-so-i-2 c =
    let a = c.args in
    omega (arith, c.requires, length-set a.so.now (3 * a.n) a.x)

pub bounds-so-i-3 : goal.bounds-so-i-3
bounds-so-i-3 c =
    let a = c.args in
    omega (arith, c.requires, length-set a.so.now (3 * a.n) a.x, length-set (set a.so.now (3 * a.n) a.x) (3 * a.n + 1) a.y)

pub returns : goal.returns
returns c =
    let a = c.args in
    three-stored a.n a.x a.y a.z a.so.now c.requires
