-- `term_trees::times_factors` meets its contract. The loop: what stands in the rows, times the factors left, is the whole. Assumes nothing.
use Rattle.std.proofs.Common.{rules}
use mathlib.Core.Path.{◌≡◌, refl, ap}
use Prim.Native.Nat.{◌-◌, ◌≤◌, ◌<◌}
use native.Mathlib.Omega.{arith}
use lib.ListN.{length}
use Rattle.theory.specs.Reduction.Standing.{times_each}
use Rattle.terms.specs.Abstraction.{term_of}
use Rattle.replacing.proofs.Turns.{left_as, turn_refused, turn_taken, turns-done, factor_next, factors_none, factor_at_lem}
use Rattle.refusal.proofs.Passing.{passed_up}
use Rattle.term_trees.proofs.times_factors.Goals.{Start}
use Rattle.term_trees.proofs.times_factors.Goals as goal

places : (c : Start) → length c.args.t.factors ≡ 7
places c = search rules

room : (c : Start) → c.args.t.factor_count ≤ length c.args.t.factors
room c = omega (arith, places c, c.requires.0.counted.few)

pub overflow_cast-n : goal.overflow_cast-n
overflow_cast-n c = omega (arith, c.requires.0.counted.few)

pub loop-i-init : goal.loop-i-init
loop-i-init c = (c.requires.1, refl, refl, record { form = c.requires.3; is = refl })

pub bounds-t-i : goal.bounds-t-i
bounds-t-i c = omega (arith, room (goal.at.bounds-t-i c).Start, c.loop-i-test.true)

pub times_factor-requires : goal.times_factor-requires
times_factor-requires c =
    let s = c in
    let v = c.loop-i.invariant in
    let w = factor_at_lem _ _ s.requires.0 (room (goal.at.times_factor-requires c).Start) c.loop-i-test.true in
    (w.0, w.1, record { form = s.requires.2.form; room = omega (arith, v.1, s.requires.2.room); beside = omega (arith, v.2, s.requires.2.beside) }, v.3.form)

pub returns-in_err-w : goal.returns-in_err-w
unfolding term_of
returns-in_err-w c =
    let v = c.loop-i.invariant in
    rw (passed_up _ _ c.from_residual.ensures.1)
    (turn_refused _ _ _ _ _ _ _ _ _ _ (left_as _ _ _ _ _ _ _ _ _ _ (factor_next _ _ _ (room (goal.at.returns-in_err-w c).Start) c.loop-i-test.true) v.3) _ _ _ c.in_err-w.ensures)

pub loop-i-preserved : goal.loop-i-preserved
loop-i-preserved c =
    let v = c.loop-i.invariant in (
      omega arith,
      omega (arith, v.1),
      omega (arith, v.2),
      turn_taken _ _ _ _ _ _ _ _ _ _ (left_as _ _ _ _ _ _ _ _ _ _ (factor_next _ _ _ (room (goal.at.loop-i-preserved c).Start) c.loop-i-test.true) v.3) _ _ _ c.in_ok-w.ensures,
    )

pub shape_of-rows : goal.shape_of-rows
shape_of-rows c = c.loop-i.invariant.1

pub shape_of-coefs : goal.shape_of-coefs
shape_of-coefs c = c.loop-i.invariant.2

pub returns : goal.returns
unfolding term_of
returns c =
    let v = c.loop-i.invariant in turns-done _ _ _ _ _ _ _ _ _ (factors_none _ _ _ (room (goal.at.returns c).Start) c.loop-i-test.false) v.3
