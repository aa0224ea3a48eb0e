-- `logs::writing::write_log` meets its contract: the first form, the number of steps, the steps and the last form stand one behind the other. Assumes nothing.
use Rattle.std.proofs.Common.{rules}
use mathlib.Core.Path.{◌≡◌, ◌∙◌}
use Prim.Native.Nat.{◌+◌, ◌-◌, ◌*◌, ◌≤◌}
use native.Mathlib.Omega.{arith}
use lib.ListN.{length, length-set}
use borrow.Rule.Slice.PartMut.{mid_len, same_len_mid}
use Rattle.specification.specs.Records.{form_bytes}
use Rattle.theory.proofs.Records.Lengths.{form_short}
use Rattle.terms.specs.Abstraction.{form_of}
use Rattle.logs.specs.Steps.{steps_of}
use Rattle.logs.proofs.WrittenLogs.{steps_short, steps-counted, log_written}
use Rattle.logs.proofs.writing.write_log.Goals.{After-write_form-a, After-write_steps-b}
use Rattle.logs.proofs.writing.write_log.Goals as goal

-- the first form ends within 770 bytes
first_end_lem : (c : After-write_form-a) → c.write_form-a.result ≤ form_bytes
first_end_lem c = omega (arith, c.write_form-a.ensures.ends, form_short (form_of c.args.f) c.requires.0.in_shape)

-- neither call changes the length
first-kept : (c : After-write_form-a) → length c.write_form-a.new.out ≡ length c.args.out.now
first-kept c = c.write_form-a.auto.out

steps-kept : (c : After-write_steps-b) → length c.write_steps-b.new.out ≡ length c.args.out.now
steps-kept c =
    let w = c.before.before.before.before in
    c.write_steps-b.auto.out ∙ simp length-set (first-kept w)

-- the steps leave room for the last form
room : (c : After-write_steps-b) → c.write_steps-b.result + (2 + 16 * c.args.g.count) ≤ length c.write_steps-b.new.out
unfolding steps_of
room c =
    let w = c.before.before.before.before in
    let s = w in
    omega (arith, first_end_lem w, c.write_steps-b.ensures.ends, steps_short s.args.q.steps s.args.q.count s.requires.1.steps, steps-kept c, s.requires.1.few, s.requires.3)

-- they end within 2243 bytes
end : (c : After-write_steps-b) → c.write_steps-b.result ≤ 2243
unfolding steps_of
end c =
    let w = c.before.before.before.before in
    let s = w in
    omega (arith, first_end_lem w, c.write_steps-b.ensures.ends, steps_short s.args.q.steps s.args.q.count s.requires.1.steps, s.requires.1.few)

pub write_form-a-requires : goal.write_form-a-requires
write_form-a-requires c = let s = c in (s.requires.0, omega (arith, s.requires.0.few, s.requires.3))

pub overflow_cast-out : goal.overflow_cast-out
overflow_cast-out c = omega (arith, c.requires.1.few)

pub bounds-out-a : goal.bounds-out-a
bounds-out-a c = let w = c in omega (arith, first_end_lem (goal.at.bounds-out-a c).After-write_form-a, first-kept (goal.at.bounds-out-a c).After-write_form-a, w.requires.3)

pub overflow_add-a : goal.overflow_add-a
overflow_add-a c = omega (arith, first_end_lem (goal.at.overflow_add-a c).After-write_form-a)

pub write_steps-b-requires : goal.write_steps-b-requires
write_steps-b-requires c =
    let w = c in
    let s = w in
    (s.requires.1, simp length-set (omega (arith, first_end_lem (goal.at.write_steps-b-requires c).After-write_form-a, first-kept (goal.at.write_steps-b-requires c).After-write_form-a, s.requires.1.few, s.requires.3)))

pub slice_bounds-write_form-count : goal.slice_bounds-write_form-count
slice_bounds-write_form-count c = omega (arith, room (goal.at.slice_bounds-write_form-count c).After-write_steps-b)

pub slice_bounds-write_form-start : goal.slice_bounds-write_form-start
slice_bounds-write_form-start c = omega (arith, room (goal.at.slice_bounds-write_form-start c).After-write_steps-b)

pub write_form-requires : goal.write_form-requires
write_form-requires c =
    let w = c in
    let o = w.write_steps-b.new.out in
    (w.requires.2, omega (arith, room (goal.at.write_form-requires c).After-write_steps-b, mid_len w.write_steps-b.result (length o) o (omega arith)))

pub overflow_add-result : goal.overflow_add-result
overflow_add-result c =
    let w = c in
    let s = w in
    omega (arith, c.write_form.ensures.ends, form_short (form_of s.args.g) s.requires.2.in_shape, end (goal.at.overflow_add-result c).After-write_steps-b)

pub shape_of-out : goal.shape_of-out
shape_of-out c =
    let w = c in
    let o = w.write_steps-b.new.out in
    same_len_mid w.write_steps-b.result (length o - w.write_steps-b.result) o c.write_form.new.out c.write_form.auto.out ∙ steps-kept (goal.at.shape_of-out c).After-write_steps-b

pub returns : goal.returns
unfolding steps_of
returns c =
    let w = c in
    let v = c in
    let s = w in
    let q = s.args.q in
    log_written _ _ _ q.count _ v.write_form-a.new.out w.write_steps-b.new.out _ _ _ _
    (steps-counted q.steps q.count (omega (arith, s.requires.1.long, s.requires.1.few)))
    v.write_form-a.ensures
    (omega (arith, first_end_lem (goal.at.returns c).After-write_form-a, first-kept (goal.at.returns c).After-write_form-a, s.requires.3))
    w.write_steps-b.ensures
    (omega (arith, room (goal.at.returns c).After-write_steps-b))
    c.write_form.ensures
