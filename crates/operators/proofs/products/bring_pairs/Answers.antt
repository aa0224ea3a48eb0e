-- `operators::products::bring_pairs` meets its contract. The loop: the terms of the pairs of the first i left terms are brought in. Assumes nothing.
use mathlib.Core.Path.{refl}
use mathlib.Core.List.{[]}
use Rattle.integers.proofs.Machine.{back_is}
use Rattle.terms.proofs.Arrays.{all-at}
use Rattle.rows.specs.Rows.{RowValid}
use Rattle.operators.proofs.Multiplying.{pairs_none, pairs-so_far, pairs-light, left-fits, pairs_more, pairs_all}
use native.Mathlib.Omega.{arith}
use Rattle.operators.proofs.products.bring_pairs.Goals as goal

pub loop-i-init : goal.loop-i-init
loop-i-init c = (omega arith, pairs_none _ _ _ _ _, refl, refl)

pub bounds-rows-i : goal.bounds-rows-i
bounds-rows-i c = omega (arith, c.requires.0.room)

pub bounds-coefs-i : goal.bounds-coefs-i
bounds-coefs-i c = omega (arith, c.requires.0.beside)

pub term_of-t-requires : goal.term_of-t-requires
term_of-t-requires c =
    let a = c in all-at RowValid a.args.rows.now a.args.n c.loop-i.i [] a.requires.0.room
    c.loop-i-test.true a.requires.0.valid

pub bring_row-count-requires : goal.bring_row-count-requires
bring_row-count-requires c =
    let p = c.requires in let v = c.loop-i.invariant in
    let k = pairs-so_far _ _ _ c.loop-i-test.true p.2.few in (
      c.term_of-t.ensures.1,
      p.1,
      left-fits _ _ _ _ p.0 _ _ _ c.loop-i-test.true _ _
          c.term_of-t.ensures (back_is (record { sfits = c.term_of-arg-1.given }))
          p.2,
      p.2.right,
      v.1.run,
      pairs-light _ _ _ _ _ _ _ _ (omega (arith, k)) v.1,
      omega (arith, k, v.1.count, v.2),
      omega
          (arith, k, v.1.count, v.3),
    )

pub loop-i-preserved : goal.loop-i-preserved
loop-i-preserved c =
    let p = c.requires in
    let v = c.loop-i.invariant in (
      omega arith,
      pairs_more _ _ _ _ p.0 _ _ _ c.loop-i-test.true _ _
          c.term_of-t.ensures
          (back_is (record { sfits = c.term_of-arg-1.given })) _ _ _ _ _ _ _ _ v.1
          c.bring_row-count.ensures,
      omega (arith, v.2),
      omega (arith, v.3),
    )

pub returns : goal.returns
returns c = let v = c.loop-i.invariant in pairs_all _ _ _ _ c.requires.0 _ _ _ _ _ _ _ _ v.0 c.loop-i-test.false v.1
