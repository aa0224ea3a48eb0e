-- `open_log::state::write_state` meets its contract: the table's length, the table, the count and the form's record stand one behind the other. Assumes nothing.
use Rattle.std.proofs.Common.{rules}
use mathlib.Core.Path.{◌≡◌, sym, ◌∙◌}
use mathlib.Core.List.{List}
use Prim.Native.Nat.{ℕ, ◌+◌, ◌-◌, ◌≤◌}
use native.Mathlib.Omega.{arith}
use borrow.Rule.Slice.PartMut.{mid_len, same_len_mid}
use lib.ListN.{length, set, length-set}
use lib.Seq.{length-take-le}
use Rattle.theory.proofs.Records.Lengths.{form_short}
use Rattle.terms.specs.Abstraction.{form_of}
use Rattle.logs.proofs.WrittenLogs.{taken_few}
use Rattle.open_log.proofs.StateBytes.{state_written_lem}
use Rattle.open_log.proofs.state.write_state.Goals.{After-write_letters-a, Start}
use Rattle.open_log.proofs.state.write_state.Goals as goal

-- the table ends within 25 bytes
end : (c : After-write_letters-a) → c.write_letters-a.result ≤ 25
end c =
    let s = c in
    omega (arith, c.write_letters-a.ensures.ends, taken_few s.args.state.letters s.args.state.table, s.requires.0.few)

-- writing it does not change the length
kept : (c : After-write_letters-a) → length c.write_letters-a.new.out ≡ length c.args.out.now
kept c = c.write_letters-a.auto.out ∙ simp length-set

-- the bytes behind it with the count
abbrev counted : (c : After-write_letters-a) → List ℕ
counted c = set c.write_letters-a.new.out c.write_letters-a.result c.args.state.count

-- they leave room for the form
room : (c : After-write_letters-a) → c.write_letters-a.result + 1 + 770 ≤ length (counted c)
room c = simp length-set (omega (arith, end c, kept c, c.requires.1))

-- there are 24 places for letters
places : (c : Start) → length c.args.state.table ≡ 24
places c = search rules

pub slice_bounds-table-end : goal.slice_bounds-table-end
slice_bounds-table-end c = let s = c in omega (arith, places (goal.at.slice_bounds-table-end c).Start, s.requires.0.few)

pub slice_bounds-write_letters-end : goal.slice_bounds-write_letters-end
slice_bounds-write_letters-end c = let s = c in sym (length-take-le _ _ (omega (arith, places (goal.at.slice_bounds-write_letters-end c).Start, s.requires.0.few)))

pub write_letters-a-requires : goal.write_letters-a-requires
write_letters-a-requires c =
    let s = c in
    simp length-set (omega (arith, s.requires.0.few, s.requires.1, taken_few s.args.state.letters s.args.state.table))

pub bounds-out-a : goal.bounds-out-a
bounds-out-a c = let w = c in omega (arith, end (goal.at.bounds-out-a c).After-write_letters-a, kept (goal.at.bounds-out-a c).After-write_letters-a, w.requires.1)

pub overflow_add-b : goal.overflow_add-b
overflow_add-b c = omega (arith, end (goal.at.overflow_add-b c).After-write_letters-a)

pub slice_bounds-write_form-count : goal.slice_bounds-write_form-count
slice_bounds-write_form-count c = omega (arith, room (goal.at.slice_bounds-write_form-count c).After-write_letters-a)

pub slice_bounds-write_form-start : goal.slice_bounds-write_form-start
slice_bounds-write_form-start c = omega (arith, room (goal.at.slice_bounds-write_form-start c).After-write_letters-a)

pub write_form-requires : goal.write_form-requires
write_form-requires c =
    let w = c in
    let s = w in
    (s.requires.0.form, omega (arith, room (goal.at.write_form-requires c).After-write_letters-a, s.requires.0.form.few, mid_len (w.write_letters-a.result + 1) (length (counted (goal.at.write_form-requires c).After-write_letters-a)) (counted (goal.at.write_form-requires c).After-write_letters-a) (omega arith)))

pub overflow_add-result : goal.overflow_add-result
overflow_add-result c =
    let w = c in
    let s = w in
    omega (arith, end (goal.at.overflow_add-result c).After-write_letters-a, c.write_form.ensures.ends, form_short (form_of s.args.state.form) s.requires.0.form.in_shape)

pub shape_of-out : goal.shape_of-out
shape_of-out c =
    let w = c in
    let o = counted (goal.at.shape_of-out c).After-write_letters-a in
    let b = w.write_letters-a.result + 1 in
    same_len_mid b (length o - b) o c.write_form.new.out c.write_form.auto.out ∙ simp length-set (kept (goal.at.shape_of-out c).After-write_letters-a)

pub returns : goal.returns
returns c =
    let c2 = c in
    let w = c in
    let s = w in
    state_written_lem s.args.state _ _ _ _ _ (omega (arith, places (goal.at.returns c).Start, s.requires.0.few)) (omega (arith, s.requires.1)) w.write_letters-a.ensures (omega
    (arith, end (goal.at.returns c).After-write_letters-a, kept (goal.at.returns c).After-write_letters-a, s.requires.1))
    c2.write_form.ensures
