-- `letters::check_table`. The loop: all letters have a kind exactly if those from letter i on have. Assumes nothing.
use mathlib.Core.Path.{◌≡◌, refl, ◌∙◌}
use native.Mathlib.Omega.{arith}
use Rattle.letters.proofs.LetterTests.{table_empty, table-long, table-bad, table_good_lem, kind-bad, kind_good, kind-end}
use Prim.Native.Nat.{◌-◌, ◌≤◌}
use lib.ListN.{length, drop}
use Rattle.specification.specs.Lists.{all}
use Rattle.specification.specs.Letters.{is_kind}
use Rattle.letters.proofs.check_table.Given as goal

abbrev pub invariant-loop-i : goal.invariant-loop-i
invariant-loop-i l = (l.i ≤ l.n) × (l.n ≡ length l.table) × (1 ≤ l.n) × (l.n ≤ 24) × (all is_kind l.table ≡ all is_kind (drop l.i l.table))
