-- `operators::products::triple` meets its contract: the third kind, then a wedge and a dot. Assumes nothing.
use Rattle.std.proofs.Common.{rules}
use Rattle.refusal.proofs.Passing.{passed_up}
use Rattle.operators.proofs.Multiplying.{triple-six, triple_refused, triple-dot}
use native.Mathlib.Omega.{arith}
use Rattle.operators.proofs.products.triple.Goals as goal

pub returns-then-last-ne1 : goal.returns-then-last-ne1
returns-then-last-ne1 c = triple-six _ _ _ _ _ c.if-last-ne1.true

pub wedge-requires : goal.wedge-requires
wedge-requires c = let p = c.requires in (p.0, p.1, p.2, p.3)

pub returns-in_err-w : goal.returns-in_err-w
returns-in_err-w c = rw (passed_up _ _ c.from_residual.ensures.1) (triple_refused _ _ _ _ _ c.if-last-ne1.false _ c.in_err-w.ensures _ _)

pub dot-requires : goal.dot-requires
dot-requires c = let p = c.requires in (c.in_ok-w.ensures.form, p.4, omega arith, omega arith)

pub returns : goal.returns
returns c = triple-dot _ _ _ _ _ c.if-last-ne1.false _ c.in_ok-w.ensures _ _ _ c.dot.ensures
