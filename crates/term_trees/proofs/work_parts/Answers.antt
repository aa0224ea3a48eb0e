-- `term_trees::work_parts` meets its contract: the front, the factors left, the vector part. Assumes nothing.
use Rattle.std.proofs.Common.{rules}
use mathlib.Core.Path.{◌≡◌}
use Prim.Native.Nat.{◌≤◌}
use native.Mathlib.Omega.{arith}
use lib.ListN.{length}
use Rattle.terms.specs.Abstraction.{term_of}
use Rattle.term_trees.proofs.Splitting.{leading-within, front-form, front_is, parts_refused, parts_given}
use Rattle.refusal.proofs.Passing.{passed_up}
use Rattle.term_trees.proofs.work_parts.Goals.{Start}
use Rattle.term_trees.proofs.work_parts.Goals as goal

places : (c : Start) → length c.args.t.factors ≡ 7
places c = search rules

room : (c : Start) → c.args.t.factor_count ≤ length c.args.t.factors
room c = omega (arith, places c, c.requires.0.counted.few)

pub front_of-requires : goal.front_of-requires
front_of-requires c = (c.requires.0.counted, leading-within _ _ _ (room (goal.at.front_of-requires c).Start) c.requires.1)

pub alone-x-requires : goal.alone-x-requires
alone-x-requires c =
    let m = c.front_of.ensures in
    let p = c.requires in
    (m.counted, front-form _ _ _ p.0.in_shape m, omega (arith, p.2.room), omega (arith, p.2.beside))

pub times_factors-requires : goal.times_factors-requires
times_factors-requires c =
    let p = c.requires in (
      p.0,
      leading-within _ _ _ (room (goal.at.times_factors-requires c).Start) p.1,
      record { form = p.2.form; room = omega (arith, p.2.room); beside = omega (arith, p.2.beside) },
      c.alone-x.ensures.form,
    )

pub returns-in_err-y : goal.returns-in_err-y
returns-in_err-y c =
    let p = c.requires in
    rw (passed_up _ _ c.from_residual.ensures.1)
    (parts_refused _ _ _ _ p.0.in_shape p.1 _ (front_is c.args.t _ _ c.front_of.ensures _ _ _ c.alone-x.ensures) _ _ _ c.in_err-y.ensures)

pub times_part-requires : goal.times_part-requires
times_part-requires c =
    let p = c.requires in
    (record { form = p.2.form; room = omega (arith, p.2.room); beside = omega (arith, p.2.beside) }, c.in_ok-y.ensures.form)

pub returns : goal.returns
unfolding term_of
returns c =
    let p = c.requires in
    parts_given _ _ _ _ p.0.in_shape p.1 _ (front_is c.args.t _ _ c.front_of.ensures _ _ _ c.alone-x.ensures) _ _ _ c.in_ok-y.ensures _ _ _ c.times_part.ensures
