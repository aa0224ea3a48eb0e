-- `rows::hold` meets its contract: the first rows are those of the first terms. Assumes nothing.
use Rattle.std.proofs.Common.{rules}
use mathlib.Core.Path.{◌≡◌, refl, sym, ◌∙◌}
use Prim.Native.Nat.{◌-◌, ◌≤◌, ◌<◌}
use native.Mathlib.Omega.{arith}
use lib.ListN.{length, length-set, length-map}
use Rattle.integers.proofs.Machine.{back_is}
use Rattle.terms.specs.Abstraction.{Counted}
use Rattle.terms.proofs.Arrays.{no_term, all-at}
use Rattle.rows.proofs.RowForms.{Filled, filled_none, filled_more, filled_all}
use Rattle.rows.proofs.hold.Goals.{Start}
use Rattle.rows.proofs.hold.Goals as goal

many : (c : Start) → c.args.f.count ≤ length c.args.f.terms
many c = let e : length c.args.f.terms ≡ 48 = search rules in omega (
  arith,
  e,
  c.requires.0.few,
)

pub loop-i-init : goal.loop-i-init
loop-i-init c = (omega arith, filled_none _ _ _, refl, refl)

pub offset_bounds-f-i : goal.offset_bounds-f-i
offset_bounds-f-i c = omega (arith, c.requires.0.few)

pub bounds-f-i : goal.bounds-f-i
bounds-f-i c = omega (arith, c.requires.0.few)

pub row_of-r-requires : goal.row_of-r-requires
row_of-r-requires c = let a = c in all-at Counted a.args.f.terms a.args.f.count
    c.loop-i.i no_term (many (goal.at.row_of-r-requires c).Start) c.loop-i-test.true a.requires.0.counted

pub loop-i-preserved : goal.loop-i-preserved
loop-i-preserved c = let a = c in let v = c.loop-i in let k : v.i < a.args.f.count =
    c.loop-i-test.true in (
      omega arith,
      filled_more _ v.i _ _ _ _ (omega (arith, many (goal.at.loop-i-preserved c).Start)) (omega (arith, v.invariant.2, a.requires.1))
          (omega (arith, v.invariant.3, a.requires.2)) v.invariant.1 c.row_of-r.ensures (back_is (record { sfits = c.struct_told-1.given.0.1 })),
      length-set v.rows v.i _ ∙ v.invariant.2,
      length-set v.coefs v.i _ ∙ v.invariant.3,
    )

pub returns : goal.returns
returns c = let a = c in let v = c.loop-i in let e : v.i ≡ a.args.f.count = omega arith in filled_all a.args.f _ _ v.i
    a.requires.0 (omega (arith, v.invariant.2, a.requires.1)) (omega (arith, v.invariant.3, a.requires.2)) e v.invariant.1
