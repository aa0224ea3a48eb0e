-- `firsts::is_before` meets its contract: the numbers before i are alike. Assumes nothing.
use mathlib.Core.Logic.{inl, inr}
use native.Mathlib.Omega.{arith}
use native.Mathlib.Nat.{not-suc-le-zero}
use Rattle.theory.specs.Values.Firsts.{alike_more}
use Rattle.firsts.proofs.Numbers.{says-before, says-not}
use Rattle.firsts.proofs.is_before.Goals as goal

pub loop-i-init : goal.loop-i-init
loop-i-init c = (omega arith, λ j h. absurd (not-suc-le-zero h))

pub bounds-s-i : goal.bounds-s-i
bounds-s-i c = omega (arith, c.requires.0)

pub bounds-t-i : goal.bounds-t-i
bounds-t-i c = omega (arith, c.requires.1)

pub returns-then-s-i : goal.returns-then-s-i
returns-then-s-i c = says-before _ _ _ _ c.loop-i.invariant.1 c.loop-i-test.true c.if-s-i.true

pub bounds-t-i-in-loop-i : goal.bounds-t-i-in-loop-i
bounds-t-i-in-loop-i c = omega (arith, c.requires.1)

pub bounds-s-i-in-loop-i : goal.bounds-s-i-in-loop-i
bounds-s-i-in-loop-i c = omega (arith, c.requires.0)

pub returns-then-t-i : goal.returns-then-t-i
returns-then-t-i c = says-not _ _ _ _ c.loop-i.invariant.1 (inl c.if-t-i.true)

pub loop-i-preserved : goal.loop-i-preserved
loop-i-preserved c =
    let given = c.args in
    let known = c.loop-i.invariant in (
      omega (arith, c.loop-i-test.true),
      alike_more _ given.s.now given.t.now known.1 c.if-s-i.false c.if-t-i.false,
    )

pub returns : goal.returns
returns c = says-not _ _ _ _ c.loop-i.invariant.1 (inr c.loop-i-test.false)
