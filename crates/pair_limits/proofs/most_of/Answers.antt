-- `pair_limits::most_of` meets its contract. The loop: the largest numbers are those of the terms from row i on. Assumes nothing.
use Rattle.std.proofs.Common.{rules}
use mathlib.Core.List.{[]}
use Prim.Native.Nat.{◌-◌, ◌≤◌}
use lib.ListN.{drop}
use Rattle.integers.proofs.Machine.{back_is}
use Rattle.terms.proofs.Arrays.{all-at}
use Rattle.rows.specs.Rows.{RowValid, run_of}
use Rattle.rows.proofs.Runs.{run_length}
use Rattle.pair_limits.specs.Limits.{MostOf}
use Rattle.pair_limits.proofs.Largest.{most_none, row_size, most-row, from-the_first}
use native.Mathlib.Omega.{arith}
use Rattle.pair_limits.proofs.most_of.Goals as goal

pub loop-i-init : goal.loop-i-init
loop-i-init c = (
  omega arith,
  most_none (run_of c.args.n c.args.rows.now c.args.coefs.now) c.args.n
      (omega (arith, run_length c.args.rows.now c.args.coefs.now c.args.n c.requires.0.room c.requires.0.beside)),
)

pub offset_bounds-rows-i : goal.offset_bounds-rows-i
offset_bounds-rows-i c = omega (arith, c.loop-i.invariant.0)

pub bounds-rows-i : goal.bounds-rows-i
bounds-rows-i c = omega (arith, c.loop-i.invariant.0, c.requires.0.room)

pub offset_bounds-coefs-i : goal.offset_bounds-coefs-i
offset_bounds-coefs-i c = omega (arith, c.loop-i.invariant.0)

pub bounds-coefs-i : goal.bounds-coefs-i
bounds-coefs-i c = omega (arith, c.loop-i.invariant.0, c.requires.0.beside)

pub term_of-t-requires : goal.term_of-t-requires
term_of-t-requires c =
    let a = c in all-at RowValid a.args.rows.now a.args.n (c.loop-i.i - 1) []
    a.requires.0.room (omega (arith, c.loop-i.invariant.0)) a.requires.0.valid

pub with_term-m-requires : goal.with_term-m-requires
with_term-m-requires c =
    let a = c in (
      c.term_of-t.ensures.1,
      row_size _ _ _ a.requires.0 a.requires.1 _
          (omega (arith, c.loop-i.invariant.0)) _ _ c.term_of-t.ensures
          (back_is (record { sfits = c.term_of-arg-1.given })),
    )

pub loop-i-preserved : goal.loop-i-preserved
loop-i-preserved c =
    let a = c in (
      omega (arith, c.loop-i.invariant.0),
      most-row _ _ _ a.requires.0 _ c.loop-i-test.true
          c.loop-i.invariant.0 _ _ _ _ c.term_of-t.ensures
          (back_is (record { sfits = c.term_of-arg-1.given })) c.loop-i.invariant.1
          c.with_term-m.ensures,
    )

pub returns : goal.returns
returns c = from-the_first (λ ts. MostOf ts c.loop-i.m) _ _ c.loop-i-test.false c.loop-i.invariant.1
