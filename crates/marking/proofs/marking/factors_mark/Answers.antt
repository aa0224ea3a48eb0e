-- `marking::marking::factors_mark`. The loop: the sum is the mark of the factors from factor i on, and leaves room for those before. Assumes nothing.
use mathlib.Core.Path.{◌≡◌, subst}
use Prim.Native.Nat.{ℕ, ◌+◌, ◌*◌, ◌-◌, ◌≤◌, ◌<◌}
use mathlib.Core.List.{map}
use native.Mathlib.Omega.{arith}
use lib.ListN.{length, take, drop}
use Rattle.terms.specs.Numbers.{letters_of}
use Rattle.terms.proofs.Arrays.{all-at}
use Rattle.marking.specs.Marks.{factors_mark}
use Rattle.marking.proofs.MarkSizes.{from_none, from_more}
use Rattle.marking.proofs.marking.factors_mark.Goals.{Start}
use Rattle.marking.proofs.marking.factors_mark.Goals as goal

few : (c : Start) → c.args.n ≤ length c.args.f.now
few c = omega (arith, c.requires.0, c.requires.1)

pub loop-i-init : goal.loop-i-init
loop-i-init c = (omega arith, from_none c.args.f.now c.args.n (few (goal.at.loop-i-init c).Start))

pub offset_bounds-f-i : goal.offset_bounds-f-i
offset_bounds-f-i c = omega (arith, c.requires.0)

pub bounds-f-i : goal.bounds-f-i
bounds-f-i c = let w = c in omega (arith, w.requires.0, w.requires.1)

pub factor_mark-a-requires : goal.factor_mark-a-requires
factor_mark-a-requires c =
    let w = c in
    all-at (λ (k : ℕ). k < 16843008) w.args.f.now w.args.n _ 0 (few (goal.at.factor_mark-a-requires c).Start) (omega (arith, c.loop-i.invariant.0, c.loop-i-test.true)) w.requires.2

pub overflow_add-a : goal.overflow_add-a
overflow_add-a c = omega (arith, c.factor_mark-a.ensures.1, c.loop-i.invariant.1.1, c.requires.0)

pub loop-i-preserved : goal.loop-i-preserved
loop-i-preserved c = let v = c.loop-i in
    let w = c in
    let next : v.i ≡ v.i - 1 + 1 = omega (arith, c.loop-i-test.true) in (
      omega (arith, v.invariant.0),
      from_more w.args.f.now w.args.n (few (goal.at.loop-i-preserved c).Start) (v.i - 1) v.a _ (omega (arith, v.invariant.0, c.loop-i-test.true))
          (subst (λ (k : ℕ). (v.a ≡ factors_mark (map letters_of (drop k (take w.args.n w.args.f.now)))) × (v.a + 15625000 * k ≤ 15625000 * w.args.n)) next
          v.invariant.1) c.factor_mark-a.ensures,
    )

pub returns : goal.returns
returns c = let v = c.loop-i in let w = c in let none : v.i ≡ 0 = omega (arith, c.loop-i-test.false) in
    (subst (λ (k : ℕ). v.a ≡ factors_mark (map letters_of (drop k (take w.args.n w.args.f.now)))) none v.invariant.1.0, omega (arith, v.invariant.1.1, w.requires.0))
