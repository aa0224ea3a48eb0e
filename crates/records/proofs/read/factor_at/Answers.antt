use Rattle.std.proofs.Common.{rules}
use mathlib.Core.Path.{◌≡◌}
use native.Mathlib.Omega.{arith}
use Rattle.records.proofs.Readers.{spelled, one_at, two_at, three_at_lem}
use Rattle.records.proofs.read.factor_at.Goals as goal

pub returns-then-size-eq1 : goal.returns-then-size-eq1
returns-then-size-eq1 c =
    let w = c in
    spelled w.args.s.now w.args.at w.args.size 1 _ _ c.if-size-eq1.true (one_at w.args.s.now w.args.at (omega arith))
    c.scalar_number.ensures

pub returns-then-size-eq2 : goal.returns-then-size-eq2
returns-then-size-eq2 c =
    let w = c in
    spelled w.args.s.now w.args.at w.args.size 2 _ _ c.if-size-eq2.true (two_at w.args.s.now w.args.at (omega arith))
    c.dot_number.ensures

pub returns : goal.returns
returns c =
    let w = c in
    let e : w.args.size ≡ 3 = omega arith in
    spelled w.args.s.now w.args.at w.args.size 3 _ _ e (three_at_lem w.args.s.now w.args.at (omega arith)) c.triple_number.ensures
