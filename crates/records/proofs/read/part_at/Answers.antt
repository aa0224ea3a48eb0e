use Rattle.std.proofs.Common.{rules}
use mathlib.Core.Path.{◌≡◌}
use native.Mathlib.Omega.{arith}
use Rattle.records.proofs.Readers.{one_at, two_at}
use Rattle.terms.specs.Abstraction.{part_of}
use Rattle.records.proofs.read.part_at.Goals as goal

pub returns-then-n-eq0 : goal.returns-then-n-eq0
unfolding part_of
returns-then-n-eq0 c = let e = c.if-n-eq0.true in rw e

pub returns-then-n-eq1 : goal.returns-then-n-eq1
unfolding part_of
returns-then-n-eq1 c = let e = c.if-n-eq1.true in rw (e, one_at c.args.s.now c.args.at (omega arith))

pub returns : goal.returns
unfolding part_of
returns c = let w = c in let e : w.args.n ≡ 2 = omega arith in rw (e, two_at w.args.s.now w.args.at (omega arith))
