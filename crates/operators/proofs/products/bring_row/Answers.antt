-- `operators::products::bring_row` meets its contract. The loop: the terms of the first j pairs are brought in. Assumes nothing.
use mathlib.Core.Path.{refl}
use mathlib.Core.List.{[]}
use Rattle.integers.proofs.Machine.{back_is}
use Rattle.terms.proofs.Arrays.{all-at}
use Rattle.rows.specs.Rows.{RowValid}
use Rattle.operators.proofs.Multiplying.{row-none, pair_fits, row_more, row-light, row_all}
use native.Mathlib.Omega.{arith}
use Rattle.operators.proofs.products.bring_row.Goals as goal

pub loop-j-init : goal.loop-j-init
loop-j-init c = (omega arith, row-none _ _ _ _ _ c.requires.4, refl, refl)

pub offset_bounds-right-j : goal.offset_bounds-right-j
offset_bounds-right-j c = omega (arith, c.requires.3)

pub bounds-right-j : goal.bounds-right-j
bounds-right-j c = omega (arith, c.requires.1.room)

pub offset_bounds-rights-j : goal.offset_bounds-rights-j
offset_bounds-rights-j c = omega (arith, c.requires.3)

pub bounds-rights-j : goal.bounds-rights-j
bounds-rights-j c = omega (arith, c.requires.1.beside)

pub term_of-u-requires : goal.term_of-u-requires
term_of-u-requires c =
    let a = c in all-at RowValid a.args.right.now a.args.m c.loop-j.j [] a.requires.1.room
    c.loop-j-test.true a.requires.1.valid

pub pair_terms-few-requires : goal.pair_terms-few-requires
pair_terms-few-requires c =
    let p = c.requires in
    pair_fits _ _ _ _ _ p.1 _ c.loop-j-test.true _ _ c.term_of-u.ensures
    (back_is (record { sfits = c.term_of-arg-1.given })) p.0 p.2

pub bring_few-count-requires : goal.bring_few-count-requires
bring_few-count-requires c =
    let p = c.requires in
    let v = c.loop-j.invariant in let w = c.pair_terms-few.ensures in (
      v.1.run,
      row-light _ _ _ _ _ _ _ _ _ c.loop-j-test.true p.3 p.5 v.1,
      omega
          (arith, v.1.count, v.2),
      omega (arith, v.1.count, v.3),
      w.few,
      w.first,
      w.second,
    )

pub loop-j-preserved : goal.loop-j-preserved
loop-j-preserved c =
    let p = c.requires in
    let v = c.loop-j.invariant in (
      omega arith,
      row_more _ _ _ _ _ p.1 _ c.loop-j-test.true _ _
          c.term_of-u.ensures
          (back_is (record { sfits = c.term_of-arg-1.given })) _ _ _ _ _ _ _ _ _ _
          c.pair_terms-few.ensures v.1 c.bring_few-count.ensures,
      omega (arith, v.2),
      omega (arith, v.3),
    )

pub returns : goal.returns
returns c = let v = c.loop-j.invariant in row_all _ _ _ _ _ c.requires.1 _ _ _ _ _ _ _ v.0 c.loop-j-test.false v.1
