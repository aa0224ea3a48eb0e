-- `pair_limits::fit_of_pairs` meets its contract. The loop: the terms of the pairs of the left terms from place i on are tested. Assumes nothing.
use Rattle.std.proofs.Common.{rules}
use mathlib.Core.List.{[]}
use Prim.Native.Nat.{◌-◌, ◌≤◌}
use lib.ListN.{drop}
use Rattle.integers.proofs.Machine.{back_is}
use Rattle.specification.specs.Reduction.{product_terms}
use Rattle.theory.specs.Elements.{All}
use Rattle.terms.proofs.Arrays.{all-at}
use Rattle.rows.specs.Rows.{RowValid, run_of}
use Rattle.rows.proofs.Runs.{run_length}
use Rattle.pairing.specs.Parts.{parts_of}
use Rattle.pair_limits.specs.Limits.{FitOf, Paired}
use Rattle.pair_limits.proofs.Largest.{in_front_lem, from-the_first}
use Rattle.pair_limits.proofs.Fitting.{at_row, pairs_none, pairs_more}
use native.Mathlib.Omega.{arith}
use Rattle.pair_limits.proofs.fit_of_pairs.Goals as goal

pub loop-i-init : goal.loop-i-init
loop-i-init c =
    let v = c.requires.0 in (
      omega arith,
      pairs_none _ _ (run_of c.args.n c.args.rows.now c.args.coefs.now) c.args.n
          (omega (arith, run_length c.args.rows.now c.args.coefs.now c.args.n v.room v.beside)),
    )

pub offset_bounds-rows-i : goal.offset_bounds-rows-i
offset_bounds-rows-i c = omega (arith, c.loop-i.invariant.0)

pub bounds-rows-i : goal.bounds-rows-i
bounds-rows-i c = omega (arith, c.loop-i.invariant.0, c.requires.0.room)

pub offset_bounds-coefs-i : goal.offset_bounds-coefs-i
offset_bounds-coefs-i c = omega (arith, c.loop-i.invariant.0)

pub bounds-coefs-i : goal.bounds-coefs-i
bounds-coefs-i c = omega (arith, c.loop-i.invariant.0, c.requires.0.beside)

pub term_of-t-requires : goal.term_of-t-requires
term_of-t-requires c =
    let a = c in
    all-at RowValid a.args.rows.now a.args.n (c.loop-i.i - 1) [] a.requires.0.room
    (omega (arith, c.loop-i.invariant.0)) a.requires.0.valid

pub fit_of_row-requires : goal.fit_of_row-requires
fit_of_row-requires c =
    let a = c in
    let l = c.loop-i in (
      c.term_of-t.ensures.1,
      a.requires.1,
      at_row (λ t. All (Paired a.args.op t) (run_of a.args.m a.args.right.now a.args.rights.now)) _ _ _ a.requires.0 (l.i - 1) (omega (arith, l.invariant.0)) _ _
          c.term_of-t.ensures (back_is (record { sfits = c.term_of-arg-1.given })) a.requires.2,
    )

pub loop-i-preserved : goal.loop-i-preserved
loop-i-preserved c =
    let a = c in
    let l = c.loop-i in
    let t = c.loop-i-test.true in (
      omega (arith, l.invariant.0),
      pairs_more _ _ _ _ _ _ _ _ (in_front_lem _ _ _ a.requires.0 l.i t l.invariant.0 _ _ c.term_of-t.ensures
          (back_is (record { sfits = c.term_of-arg-1.given }))) c.fit_of_row.ensures l.invariant.1 c.both-fit.ensures,
    )

pub returns : goal.returns
returns c =
    let a = c.args in
    from-the_first (λ ts. FitOf (product_terms (parts_of a.op) ts (run_of a.m a.right.now a.rights.now)) c.loop-i.fit)
    _ _ c.loop-i-test.false c.loop-i.invariant.1
