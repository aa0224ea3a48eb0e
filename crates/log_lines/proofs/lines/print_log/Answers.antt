-- `log_lines::lines::print_log` meets its contract: the line of the form, those of the steps and that of the last form in a row. Assumes nothing.
use mathlib.Core.Path.{◌≡◌, ◌∙◌}
use Prim.Native.Nat.{◌+◌, ◌-◌, ◌*◌, ◌≤◌}
use native.Mathlib.Omega.{arith}
use lib.ListN.{length, take}
use borrow.Rule.Slice.PartMut.{mid_len, same_len_mid}
use Rattle.specification.specs.Printing.{line_bytes}
use Rattle.terms.specs.Abstraction.{form_of}
use Rattle.logs.specs.Steps.{steps_of}
use Rattle.logs.proofs.WrittenLogs.{taken_few}
use Rattle.printing.proofs.Lengths.{line_short}
use Rattle.log_lines.proofs.Texts.{steps_short, log_written}
use Rattle.log_lines.proofs.lines.print_log.Goals.{After-print_line-a, After-print_steps-b}
use Rattle.log_lines.proofs.lines.print_log.Goals as goal

-- the line of the first form ends within the bytes of a line
first_end_lem : (c : After-print_line-a) → c.print_line-a.result ≤ line_bytes
first_end_lem c =
    omega (arith, c.print_line-a.ensures.ends, line_short c.args.names.now (form_of c.args.f) c.requires.0.valid.in_shape)

-- neither call changes the length
steps-kept : (c : After-print_steps-b) → length c.print_steps-b.new.out ≡ length c.args.out.now
steps-kept c = c.print_steps-b.auto.out ∙ c.print_line-a.auto.out

-- the lines of the steps end within 55 bytes each behind it
end : (c : After-print_steps-b) → c.print_steps-b.result ≤ line_bytes + 55 * c.args.q.count
unfolding steps_of
end c =
    let q = c.args.q in
    omega (
      arith,
      c.print_line-a.ensures.ends,
      line_short c.args.names.now (form_of c.args.f) c.requires.0.valid.in_shape,
      c.print_steps-b.ensures.ends,
      steps_short c.args.names.now (take q.count q.steps) c.requires.1.steps,
      taken_few q.count q.steps,
    )

-- and leave room for the last form
room : (c : After-print_steps-b) → c.print_steps-b.result + line_bytes ≤ length c.print_steps-b.new.out
room c = omega (arith, end c, steps-kept c, c.requires.3)

pub print_line-a-requires : goal.print_line-a-requires
print_line-a-requires c = (c.requires.0, omega (arith, c.requires.3))

pub print_steps-b-requires : goal.print_steps-b-requires
print_steps-b-requires c =
    let e = first_end_lem (goal.at.print_steps-b-requires c).After-print_line-a in
    (c.requires.1, omega (arith, e, c.print_line-a.auto.out, c.requires.1.valid.few, c.requires.3))

pub slice_bounds-print_line-count : goal.slice_bounds-print_line-count
slice_bounds-print_line-count c = omega (arith, room (goal.at.slice_bounds-print_line-count c).After-print_steps-b)

pub slice_bounds-print_line-start : goal.slice_bounds-print_line-start
slice_bounds-print_line-start c = omega (arith, room (goal.at.slice_bounds-print_line-start c).After-print_steps-b)

pub print_line-requires : goal.print_line-requires
print_line-requires c =
    let o = c.print_steps-b.new.out in
    (c.requires.2, omega (arith, room (goal.at.print_line-requires c).After-print_steps-b, mid_len c.print_steps-b.result (length o) o (omega arith)))

pub overflow_add-result : goal.overflow_add-result
overflow_add-result c =
    let h = line_short c.args.names.now (form_of c.args.g) c.requires.2.valid.in_shape in
    omega (arith, c.print_line.ensures.ends, h, end (goal.at.overflow_add-result c).After-print_steps-b, c.requires.1.valid.few)

pub shape_of-out : goal.shape_of-out
shape_of-out c =
    let o = c.print_steps-b.new.out in
    let p = c.print_line in
    same_len_mid c.print_steps-b.result (length o - c.print_steps-b.result) o p.new.out p.auto.out ∙ steps-kept (goal.at.shape_of-out c).After-print_steps-b

pub returns : goal.returns
returns c =
    log_written _ _ _ _ _ _ _ _ _ _ c.print_line-a.ensures c.print_steps-b.ensures (omega (arith, room (goal.at.returns c).After-print_steps-b))
    c.print_line.ensures
