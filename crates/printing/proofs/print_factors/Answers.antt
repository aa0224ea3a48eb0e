-- `printing::print_factors` meets its contract: before each turn the factors from i on are left, and there is room for them. Assumes nothing.
use Rattle.std.proofs.Common.{rules}
use mathlib.Core.Path.{◌≡◌}
use Prim.Native.Nat.{ℕ, ◌≤◌, ◌<◌}
use native.Mathlib.Omega.{arith}
use lib.ListN.{length}
use Rattle.terms.specs.Abstraction.{term_of}
use Rattle.terms.proofs.Arrays.{all-at}
use Rattle.symbols.specs.Text.{print_factors}
use Rattle.symbols.proofs.Progress.{begins, goes_on_lem, ended}
use Rattle.printing.proofs.Texts.{factor-room, factor_next, factors-end, factor-named}
use Rattle.printing.proofs.print_factors.Goals.{Start}
use Rattle.printing.proofs.print_factors.Goals as goal

-- there are seven places
places : (c : Start) → length c.args.t.factors ≡ 7
places c = search rules

-- so that the factors are among them
few : (c : Start) → c.args.t.factor_count ≤ length c.args.t.factors
few c = omega (arith, places c, c.requires.0.valid.counted.few)

pub overflow_cast-n : goal.overflow_cast-n
overflow_cast-n c = omega (arith, c.requires.0.valid.counted.few)

pub loop-i-init : goal.loop-i-init
unfolding print_factors term_of
loop-i-init c = (omega arith, c.requires.1, begins _ _ _)

pub bounds-t-i : goal.bounds-t-i
bounds-t-i c = omega (arith, c.requires.0.valid.counted.few)

pub print_factor-next-requires : goal.print_factor-next-requires
print_factor-next-requires c =
    let w = c in
    let s = c in
    let i : w.loop-i.i < s.args.t.factor_count = omega arith in (
      all-at (λ (k : ℕ). k < 16843008) _ _ _ 0 (few (goal.at.print_factor-next-requires c).Start) i s.requires.0.valid.counted.small,
      factor-named _ s.args.t _ s.requires.0.letters (few (goal.at.print_factor-next-requires c).Start) i,
      (factor-room _ _ _ _ (few (goal.at.print_factor-next-requires c).Start) i _ _ w.loop-i.invariant.1).0,
    )

pub loop-i-preserved : goal.loop-i-preserved
loop-i-preserved c =
    let w = c in
    let s = c in
    let i : w.loop-i.i < s.args.t.factor_count = omega (arith, c.loop-i-test.true) in
    let r = factor-room _ _ _ _ (few (goal.at.loop-i-preserved c).Start) i _ _ w.loop-i.invariant.1 in
    let e = c.print_factor-next.ensures in
    let u = goes_on_lem _ _ _ _ _ _ _ _ _ _ (factor_next _ _ _ _ (few (goal.at.loop-i-preserved c).Start) i) r.0 w.loop-i.invariant.2 e in
    (omega arith, omega (arith, r.1, e.ends, c.print_factor-next.auto.out), u)

pub shape_of-out : goal.shape_of-out
shape_of-out c = c.loop-i.invariant.2.kept

pub returns : goal.returns
returns c = let w = c in ended _ _ _ _ _ _ (factors-end _ _ _ _ (few (goal.at.returns c).Start) c.loop-i-test.false) w.loop-i.invariant.2
