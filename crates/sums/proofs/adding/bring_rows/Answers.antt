-- `sums::adding::bring_rows` meets its contract. The loop: the first j rows are brought in. Assumes nothing.
use Rattle.std.proofs.Common.{rules}
use mathlib.Core.Path.{◌≡◌, refl}
use Prim.Native.Nat.{◌-◌, ◌≤◌}
use lib.ListN.{length, take}
use Rattle.integers.proofs.Machine.{back_is}
use Rattle.rows.specs.Rows.{run_of}
use Rattle.sums.specs.Results.{Brought}
use Rattle.sums.proofs.Bringing.{brought_none}
use Rattle.sums.proofs.Sums.{row-valid, row-bound, rows-light, rows_more, rows_all}
use native.Mathlib.Omega.{arith}
use Rattle.sums.proofs.adding.bring_rows.Goals as goal

pub loop-j-init : goal.loop-j-init
loop-j-init c = (omega arith, brought_none _ _ _ c.requires.0, refl, refl)

pub offset_bounds-right-j : goal.offset_bounds-right-j
offset_bounds-right-j c = omega (arith, c.requires.2.form.few)

pub bounds-right-j : goal.bounds-right-j
bounds-right-j c = omega (arith, c.requires.2.form.run.room)

pub offset_bounds-rights-j : goal.offset_bounds-rights-j
offset_bounds-rights-j c = omega (arith, c.requires.2.form.few)

pub bounds-rights-j : goal.bounds-rights-j
bounds-rights-j c = omega (arith, c.requires.2.form.run.beside)

pub bring-count-requires : goal.bring-count-requires
bring-count-requires c =
    let v = c.loop-j.invariant in let p = c.requires in
    let h = c.loop-j-test.true in (
      v.1.run,
      rows-light _ _ _ p.2 _ h _ _ _ _ _ _ v.1 p.1,
      omega (arith, v.1.count),
      omega (arith, v.1.count),
      row-valid _ _ _
          p.2 _ h,
      row-bound _ _ _ p.2 _ h _ (back_is (record { sfits = c.c-1.given })),
    )

pub loop-j-preserved : goal.loop-j-preserved
loop-j-preserved c =
    let v = c.loop-j.invariant in
    let p = c.requires in (
      omega arith,
      rows_more _ _ _ p.2 _ c.loop-j-test.true _ _ _ _ _ _ v.1 _ _ _ _
          (back_is (record { sfits = c.c-1.given })) c.bring-count.ensures,
      omega (arith, v.2),
      omega
          (arith, v.3),
    )

pub returns : goal.returns
returns c = let v = c.loop-j.invariant in rows_all _ _ _ c.requires.2 _ _ _ _ _ _ _ v.0 c.loop-j-test.false v.1
