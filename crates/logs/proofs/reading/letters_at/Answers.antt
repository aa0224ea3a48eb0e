-- `logs::reading::letters_at` meets its contract: the first letters are those of the log. Assumes nothing.
use Rattle.std.proofs.Common.{rules}
use mathlib.Core.Path.{◌≡◌, refl, subst, ◌∙◌}
use Prim.Native.Nat.{ℕ, ◌-◌, ◌≤◌}
use native.Mathlib.Omega.{arith}
use lib.ListN.{length, length-set, take, drop}
use Rattle.logs.proofs.StepRecords.{letter-copied}
use Rattle.logs.proofs.reading.letters_at.Goals as goal

pub loop-i-init : goal.loop-i-init
loop-i-init c = (omega arith, refl, refl)

pub overflow_add-letters : goal.overflow_add-letters
overflow_add-letters c = omega (arith, c.requires.1)

pub bounds-s-at : goal.bounds-s-at
bounds-s-at c = omega (arith, c.requires.1)

pub bounds-letters-i : goal.bounds-letters-i
bounds-letters-i c = omega (arith, c.requires.0, c.loop-i.invariant.1)

pub loop-i-preserved : goal.loop-i-preserved
loop-i-preserved c =
    let v = c.loop-i in
    let w = c in (
      omega arith,
      length-set v.letters v.i _ ∙ v.invariant.1,
      letter-copied c.args.s.now c.args.at v.i v.letters v.invariant.2
          (omega (arith, v.invariant.1, w.requires.0)) (omega (arith, w.requires.1)),
    )

pub returns : goal.returns
returns c =
    let v = c.loop-i in
    let e : v.i ≡ c.args.n = omega (arith, c.loop-i-test.false, v.invariant.0) in
    subst (λ (m : ℕ). take m v.letters ≡ take m (drop c.args.at c.args.s.now)) e v.invariant.2
