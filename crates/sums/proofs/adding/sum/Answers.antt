-- `sums::adding::sum` meets its contract: kinds that differ refused, else the sum where it stands or apart. Assumes nothing.
use Rattle.std.proofs.Common.{rules}
use Rattle.sums.proofs.Sums.{sum-six, kinds_as, sum_as}
use native.Mathlib.Omega.{arith}
use Rattle.sums.proofs.adding.sum.Goals as goal

pub returns-then-kind-other : goal.returns-then-kind-other
returns-then-kind-other c = sum-six _ _ _ _ c.if-kind-other.true

pub overflow_add-n : goal.overflow_add-n
overflow_add-n c = omega (arith, c.requires.0.few, c.requires.1.few)

pub add_apart-requires : goal.add_apart-requires
add_apart-requires c = let p = c.requires in (p.0, kinds_as _ _ _ _ _ c.if-kind-other.false p.1, p.2, p.3)

pub returns-then-n-m-gt48 : goal.returns-then-n-m-gt48
returns-then-n-m-gt48 c = sum_as _ _ _ _ _ _ _ c.if-kind-other.false c.add_apart.ensures

pub add_here-requires : goal.add_here-requires
add_here-requires c =
    let p = c.requires in (p.0, kinds_as _ _ _ _ _ c.if-kind-other.false p.1, omega arith, omega arith)

pub returns : goal.returns
returns c = sum_as _ _ _ _ _ _ _ c.if-kind-other.false c.add_here.ensures
