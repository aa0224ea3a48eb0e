-- `rows::copy` meets its contract. The loop: the first i rows are copied. Assumes nothing.
use mathlib.Core.Path.{◌≡◌, refl, ◌∙◌}
use Prim.Native.Nat.{◌-◌, ◌≤◌}
use lib.ListN.{length, length-set}
use Rattle.integers.proofs.Machine.{back_is}
use Rattle.rows.specs.Rows.{Copied}
use Rattle.rows.proofs.RowForms.{copied_none, copied_more, copied_all}
use native.Mathlib.Omega.{arith}
use Rattle.rows.proofs.copy.Given as goal

abbrev pub invariant-loop-i : goal.invariant-loop-i
invariant-loop-i l = (l.i ≤ l.n) × Copied l.i l.from l.froms l.rows l.coefs × (length l.rows ≡ length l.initial.rows) × (length l.coefs ≡ length l.initial.coefs)
