-- `letters::check_table`. The loop: all letters have a kind exactly if those from letter i on have. Assumes nothing.
use Rattle.std.proofs.Common.{rules}
use mathlib.Core.Path.{◌≡◌, refl, ◌∙◌}
use native.Mathlib.Omega.{arith}
use Rattle.letters.proofs.LetterTests.{table_empty, table-long, table-bad, table_good_lem, kind-bad, kind_good, kind-end}
use Prim.Native.Nat.{◌-◌, ◌≤◌}
use lib.ListN.{length, drop}
use Rattle.specification.specs.Lists.{all}
use Rattle.specification.specs.Letters.{is_kind}
use Rattle.letters.proofs.check_table.Goals as goal

pub returns-then-n-lt1 : goal.returns-then-n-lt1
returns-then-n-lt1 c = table_empty _ c.if-n-lt1.true

pub returns-then-n-gt24 : goal.returns-then-n-gt24
returns-then-n-gt24 c = table-long _ c.if-n-lt1.false c.if-n-gt24.true

pub loop-i-init : goal.loop-i-init
loop-i-init c = (omega arith, refl, c.if-n-lt1.false, c.if-n-gt24.false, refl)

pub bounds-table-i : goal.bounds-table-i
bounds-table-i c = omega (arith, c.loop-i.invariant.1)

pub returns-then-table-i-gt1 : goal.returns-then-table-i-gt1
returns-then-table-i-gt1 c =
    table-bad _ c.if-n-lt1.false c.if-n-gt24.false
    (c.loop-i.invariant.4 ∙ kind-bad c.args.table.now c.loop-i.i
    (omega (arith, c.loop-i.invariant.1)) c.if-table-i-gt1.true)

pub loop-i-preserved : goal.loop-i-preserved
loop-i-preserved c =
    let inv = c.loop-i.invariant in (
      omega arith,
      inv.1,
      inv.2,
      inv.3,
      inv.4 ∙ kind_good c.args.table.now c.loop-i.i (omega (arith, inv.1))
          c.if-table-i-gt1.false,
    )

pub returns : goal.returns
returns c =
    table_good_lem _ c.if-n-lt1.false c.if-n-gt24.false
    (c.loop-i.invariant.4 ∙ kind-end c.args.table.now c.loop-i.i (omega (arith, c.loop-i.invariant.1)))
