-- `rows::hold` meets its contract: the first rows are those of the first terms. Assumes nothing.
use mathlib.Core.Path.{◌≡◌, refl, sym, ◌∙◌}
use Prim.Native.Nat.{◌-◌, ◌≤◌, ◌<◌}
use native.Mathlib.Omega.{arith}
use lib.ListN.{length, length-set, length-map}
use Rattle.integers.proofs.Machine.{back_is}
use Rattle.terms.specs.Abstraction.{Counted}
use Rattle.terms.proofs.Arrays.{no_term, all-at}
use Rattle.rows.proofs.RowForms.{Filled, filled_none, filled_more, filled_all}
use Rattle.rows.proofs.hold.Given as goal

abbrev pub invariant-loop-i : goal.invariant-loop-i
invariant-loop-i l = (l.i ≤ l.n) × Filled l.f.terms l.i l.rows l.coefs × (length l.rows ≡ length l.initial.rows) × (length l.coefs ≡ length l.initial.coefs)
