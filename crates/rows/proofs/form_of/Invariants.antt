-- `rows::form_of` meets its contract: the first terms are those of the first rows. Assumes nothing.
use mathlib.Core.List.{[]}
use mathlib.Core.Path.{◌≡◌, refl, ◌∙◌}
use Prim.Native.Nat.{◌-◌, ◌≤◌}
use native.Mathlib.Omega.{arith}
use lib.ListN.{length, length-set}
use Rattle.integers.proofs.Machine.{back_is}
use Rattle.terms.proofs.Arrays.{all-at}
use Rattle.rows.specs.Rows.{RowValid}
use Rattle.rows.proofs.RowForms.{Given, given_none, given_more, given_all}
use Rattle.rows.proofs.form_of.Given as goal

abbrev pub invariant-loop-i : goal.invariant-loop-i
invariant-loop-i l = (l.i ≤ l.n) × Given l.n l.rows l.coefs l.i l.ts × (length l.ts ≡ 48)
