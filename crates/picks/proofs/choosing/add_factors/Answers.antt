-- `picks::choosing::add_factors`. The loop: the letters of the factors from factor i on are in the pool. Assumes nothing.
use native.Mathlib.Omega.{arith}
use Rattle.picks.proofs.Pools.{factors_none, factors_more}
use Rattle.picks.specs.Choosing.{Adds}
use Rattle.specification.specs.Lists.{joined}
use Rattle.terms.specs.Numbers.{letters_of}
use mathlib.Core.List.{map}
use Prim.Native.Nat.{◌≤◌, ℕ, ◌<◌, ◌-◌, ◌+◌}
use lib.ListN.{length, take, drop}
use Rattle.terms.proofs.Arrays.{all-at}
use mathlib.Core.Path.{◌≡◌, subst}
use Rattle.picks.proofs.choosing.add_factors.Goals.{Start}
use Rattle.picks.proofs.choosing.add_factors.Goals as goal

few : (c : Start) → c.args.count ≤ length c.args.f.now
few c = omega (arith, c.requires.2, c.requires.3)

pub loop-i-init : goal.loop-i-init
loop-i-init c = (omega arith, factors_none _ _ _ _ c.requires.0 c.requires.1 (few (goal.at.loop-i-init c).Start))

pub offset_bounds-f-i : goal.offset_bounds-f-i
offset_bounds-f-i c = omega (arith, c.requires.2)

pub bounds-f-i : goal.bounds-f-i
bounds-f-i c = let w = c in omega (arith, w.requires.2, w.requires.3)

pub add_factor-c-requires : goal.add_factor-c-requires
add_factor-c-requires c =
    let v = c.loop-i in
    let w = c in
    (v.invariant.1.few, v.invariant.1.places, all-at (λ k. k < 16843008) w.args.f.now w.args.count _ 0 (few (goal.at.add_factor-c-requires c).Start) (omega (arith, v.invariant.0)) w.requires.4)

pub loop-i-preserved : goal.loop-i-preserved
loop-i-preserved c = let v = c.loop-i in
    let w = c in
    let next : v.i ≡ v.i - 1 + 1 = omega (arith, c.loop-i-test.true) in (
      omega (arith, v.invariant.0),
      factors_more w.args.f.now w.args.count (v.i - 1) (few (goal.at.loop-i-preserved c).Start) (omega (arith, v.invariant.0, c.loop-i-test.true))
          (subst (λ (n : ℕ). Adds (joined (map letters_of (drop n (take w.args.count w.args.f.now)))) w.args.pool.now w.args.n v.pool
          v.c) next
          v.invariant.1) c.add_factor-c.ensures,
    )

pub returns : goal.returns
returns c =
    let v = c.loop-i in
    let w = c in
    let none : v.i ≡ 0 = omega (arith, c.loop-i-test.false) in
    subst (λ (n : ℕ). Adds (joined (map letters_of (drop n (take w.args.count w.args.f.now)))) w.args.pool.now w.args.n v.pool
    v.c) none
    v.invariant.1
