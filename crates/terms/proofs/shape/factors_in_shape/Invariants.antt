-- `terms::shape::factors_in_shape`. The loop: all factors are in shape and ascend exactly if those from factor i on are and do behind the last one seen. Assumes nothing.
use mathlib.Core.Path.{◌≡◌, refl, sym, ◌∙◌}
use Prim.Native.Nat.{◌-◌, ◌≤◌}
use native.Mathlib.Omega.{arith}
use lib.ListN.{length, take, drop}
use borrow.Author.Tests.{not-true, not-false}
use Rattle.terms.proofs.InShape.{shape_from, shape_is, shape-back, shape-bad, shape_more, shape-end}
use Rattle.terms.proofs.shape.factors_in_shape.Given as goal

abbrev pub invariant-loop-i : goal.invariant-loop-i
invariant-loop-i l = (l.i ≤ l.n) × (l.n ≤ 7) × (shape_from 0 (take l.n l.f) ≡ shape_from l.last (drop l.i (take l.n l.f)))
