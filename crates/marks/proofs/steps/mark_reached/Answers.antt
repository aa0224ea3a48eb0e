-- `marks::steps::mark_reached` meets its contract: 255 stands at the marks of the products passed. Assumes nothing.
use Rattle.std.proofs.Common.{rules}
use mathlib.Core.Path.{◌≡◌}
use Prim.Native.Nat.{◌≤◌}
use native.Mathlib.Omega.{arith}
use lib.ListN.{length}
use Rattle.rule_table.proofs.Tied.{rows_few}
use Rattle.marks.proofs.RowsPassed.{raised_none, raised_more, raised_all}
use Rattle.marks.proofs.steps.mark_reached.Goals.{After-row_count-n, Start}
use Rattle.marks.proofs.steps.mark_reached.Goals as goal

six : (c : Start) → length c.args.s.letters ≡ 6
six c = search rules

few : (r : After-row_count-n) → r.row_count-n.result ≤ 7
few r = rows_few _ _ r.requires.0.rule r.row_count-n.ensures

pub row_count-n-requires : goal.row_count-n-requires
row_count-n-requires c = tt

pub rule_rows-rows-requires : goal.rule_rows-rows-requires
rule_rows-rows-requires c = c.requires.0.rule

pub mark_step-w-requires : goal.mark_step-w-requires
mark_step-w-requires c = c.requires.0.m.counted

pub loop-i-init : goal.loop-i-init
loop-i-init c = (omega arith, raised_none _ _ _ c.requires.1)

pub offset_bounds-rows-i : goal.offset_bounds-rows-i
offset_bounds-rows-i c = omega (arith, c.loop-i-test.true, few (goal.at.offset_bounds-rows-i c).After-row_count-n)

pub bounds-rows-i : goal.bounds-rows-i
bounds-rows-i c = omega (
  arith,
  c.loop-i-test.true,
  few (goal.at.bounds-rows-i c).After-row_count-n,
  c.rule_rows-rows.ensures.places,
)

pub product_mark-h-requires : goal.product_mark-h-requires
product_mark-h-requires c = let m = c.mark_step-w.ensures in record {
  small = (m.few_factors, m.small_part);
  letters = (
    m.letters.places,
    m.letters.small,
  );
}

pub bounds-marks-h : goal.bounds-marks-h
bounds-marks-h c = omega (arith, c.product_mark-h.ensures.1, c.loop-i.invariant.1.long)

pub loop-i-preserved : goal.loop-i-preserved
loop-i-preserved c = let v = c.loop-i in (
  omega (arith, c.loop-i-test.true),
  raised_more _ _ _ v.i _ v.marks v.invariant.1 (omega (
    arith,
    c.product_mark-h.ensures.1,
  )) c.product_mark-h.ensures.0,
)

pub returns : goal.returns
returns c = let v = c.loop-i in
    let w = c in record {
      covering = raised_all _ _ _ v.i v.marks w.args.s v.invariant.1 (omega (
        arith,
        v.invariant.0,
        c.loop-i-test.false,
        c.row_count-n.ensures,
      )) w.requires.0 (six (goal.at.returns c).Start) c.mark_step-w.ensures
          c.rule_rows-rows.ensures;
      long = v.invariant.1.long;
    }
