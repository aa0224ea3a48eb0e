-- `replacing::occurrences::leading`. The loop: the leading factors are the first i and the leading ones from factor i on. Assumes nothing.
use Prim.Native.Nat.{◌≤◌}
use native.Mathlib.Omega.{arith}
use lib.ListN.{length}
use Rattle.terms.proofs.Arrays.{all-at}
use Rattle.replacing.proofs.Places.{leading-found, leading-passed, leading-ended}
use Rattle.replacing.proofs.occurrences.leading.Goals.{Start}
use Rattle.replacing.proofs.occurrences.leading.Goals as goal

room : (c : Start) → c.args.n ≤ length c.args.f.now
room c = omega (arith, c.requires.0, c.requires.1)

pub loop-i-init : goal.loop-i-init
loop-i-init c = (omega arith, omega arith)

pub bounds-f-i : goal.bounds-f-i
bounds-f-i c = omega (arith, room (goal.at.bounds-f-i c).Start)

pub factor_has-requires : goal.factor_has-requires
factor_has-requires c = let s = c in all-at _ _ _ _ _ (room (goal.at.factor_has-requires c).Start) c.loop-i-test.true s.requires.2

pub returns-then-factor_has : goal.returns-then-factor_has
returns-then-factor_has c =
    let v = c in
    leading-found _ _ _ _ _ (room (goal.at.returns-then-factor_has c).Start) _ c.factor_has.ensures c.loop-i-test.true v.loop-i.invariant.1
    c.if-factor_has.true

pub loop-i-preserved : goal.loop-i-preserved
loop-i-preserved c =
    let v = c in (
      omega arith,
      leading-passed _ _ _ _ _ (room (goal.at.loop-i-preserved c).Start) _ c.factor_has.ensures c.loop-i-test.true v.loop-i.invariant.1
          c.if-factor_has.false,
    )

pub returns : goal.returns
returns c =
    let v = c in
    leading-ended _ _ _ _ (room (goal.at.returns c).Start) (omega (arith, v.loop-i.invariant.0)) v.loop-i.invariant.1
