-- `case_lines::stands` meets its contract: the bytes before i are the filling. Assumes nothing.
use native.Mathlib.Nat.{not-suc-le-zero}
use Rattle.case_lines.proofs.Filling.{stands_more, all_stand, one_found}
use Rattle.case_lines.proofs.stands.Goals as goal

pub loop-i-init : goal.loop-i-init
loop-i-init c = λ x h. absurd (not-suc-le-zero h)

pub returns-then-s-i : goal.returns-then-s-i
returns-then-s-i c = one_found _ _ c.loop-i-test.true c.if-s-i.true

pub loop-i-preserved : goal.loop-i-preserved
loop-i-preserved c = stands_more c.args.s.now _ c.if-s-i.false c.loop-i.invariant

pub returns : goal.returns
returns c = all_stand _ _ c.loop-i-test.false c.loop-i.invariant
