-- `pair_limits::fit_of_row` meets its contract. The loop: the terms of the pairs from place j on are tested. Assumes nothing.
use Rattle.std.proofs.Common.{rules}
use mathlib.Core.List.{[]}
use Prim.Native.Nat.{◌-◌, ◌≤◌}
use lib.ListN.{drop}
use Rattle.integers.proofs.Machine.{back_is}
use Rattle.terms.specs.Abstraction.{term_of}
use Rattle.terms.proofs.Arrays.{all-at}
use Rattle.rows.specs.Rows.{RowValid, run_of}
use Rattle.rows.proofs.Runs.{run_length}
use Rattle.pair_limits.specs.Limits.{FitOf, Paired, row_terms}
use Rattle.pair_limits.proofs.Largest.{in_front_lem, from-the_first}
use Rattle.pair_limits.proofs.Fitting.{at_row, row-none, row_more}
use native.Mathlib.Omega.{arith}
use Rattle.pair_limits.proofs.fit_of_row.Goals as goal

pub loop-j-init : goal.loop-j-init
loop-j-init c =
    let v = c.requires.1 in (
      omega arith,
      row-none _ _ (run_of c.args.m c.args.right.now c.args.rights.now) c.args.m
          (omega (arith, run_length c.args.right.now c.args.rights.now c.args.m v.room v.beside)),
    )

pub offset_bounds-right-j : goal.offset_bounds-right-j
offset_bounds-right-j c = omega (arith, c.loop-j.invariant.0)

pub bounds-right-j : goal.bounds-right-j
bounds-right-j c = omega (arith, c.loop-j.invariant.0, c.requires.1.room)

pub offset_bounds-rights-j : goal.offset_bounds-rights-j
offset_bounds-rights-j c = omega (arith, c.loop-j.invariant.0)

pub bounds-rights-j : goal.bounds-rights-j
bounds-rights-j c = omega (arith, c.loop-j.invariant.0, c.requires.1.beside)

pub term_of-u-requires : goal.term_of-u-requires
term_of-u-requires c =
    let a = c in
    all-at RowValid a.args.right.now a.args.m (c.loop-j.j - 1) [] a.requires.1.room
    (omega (arith, c.loop-j.invariant.0)) a.requires.1.valid

pub fit_of_pair-requires : goal.fit_of_pair-requires
fit_of_pair-requires c =
    let a = c in
    let l = c.loop-j in (
      a.requires.0,
      c.term_of-u.ensures.1,
      at_row (Paired a.args.op (term_of a.args.t)) _ _ _ a.requires.1 (l.j - 1) (omega (arith, l.invariant.0)) _ _ c.term_of-u.ensures
          (back_is (record { sfits = c.term_of-arg-1.given })) a.requires.2,
    )

pub loop-j-preserved : goal.loop-j-preserved
loop-j-preserved c =
    let a = c in
    let l = c.loop-j in
    let t = c.loop-j-test.true in (
      omega (arith, l.invariant.0),
      row_more _ _ _ _ _ _ _ _ (in_front_lem _ _ _ a.requires.1 l.j t l.invariant.0 _ _ c.term_of-u.ensures
          (back_is (record { sfits = c.term_of-arg-1.given }))) c.fit_of_pair.ensures l.invariant.1 c.both-fit.ensures,
    )

pub returns : goal.returns
returns c =
    let a = c.args in
    from-the_first (λ us. FitOf (row_terms a.op (term_of a.t) us) c.loop-j.fit) _ _ c.loop-j-test.false c.loop-j.invariant.1
