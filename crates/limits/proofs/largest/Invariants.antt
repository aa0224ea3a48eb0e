-- `limits::largest` meets its contract: none of the coefficients passed is larger. Assumes nothing.
use mathlib.Core.Path.{◌≡◌, ap, subst, ◌∙◌}
use mathlib.Core.Logic.{⊎_elim}
use Prim.Native.Nat.{ℕ, ◌-◌, ◌≤◌}
use native.Mathlib.Omega.{arith}
use lib.IntN.{pos, nat_abs}
use lib.ListN.{get_or}
use Rattle.integers.proofs.Machine.{back_is}
use Rattle.rows.specs.Rows.{Light}
use Rattle.rows.proofs.RowForms.{light_more, light_next, light-at}
use Rattle.limits.proofs.largest.Given as goal

abbrev pub invariant-loop-i : goal.invariant-loop-i
invariant-loop-i l = (l.i ≤ l.n) × Light l.most l.i l.coefs × (l.most ≤ 2147483647)
