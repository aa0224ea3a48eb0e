-- `log_texts::reading::read_step_lines` meets its contract. The loop's invariant: what is left to be read is the whole (`StepsFrom`). Assumes nothing.
use Rattle.std.proofs.Common.{rules}
use Rattle.refusal.proofs.Passing.{passed_up}
use native.Mathlib.Omega.{arith}
use Rattle.log_texts.proofs.Lines.{step-inside, steps-begin, steps-stop, steps_refused, steps_more, steps-many, steps-done}
use Rattle.log_texts.proofs.reading.read_step_lines.Goals as goal

pub no_steps-steps-requires : goal.no_steps-steps-requires
no_steps-steps-requires c = tt

pub loop-i-init : goal.loop-i-init
loop-i-init c =
    steps-begin c.args.s.now c.args.names.now c.args.table.now _ _ c.requires.0 c.no_steps-steps.ensures.0 c.no_steps-steps.ensures.1

pub stands_step-requires : goal.stands_step-requires
stands_step-requires c = c.loop-i.invariant.inside

pub returns-then-not-stands_step : goal.returns-then-not-stands_step
returns-then-not-stands_step c =
    steps-stop c.args.s.now c.args.names.now c.args.table.now _ _ _ _ c.loop-i.invariant _ c.stands_step.ensures
    c.loop-i-test.true c.if-not-stands_step.true

pub step_at-requires : goal.step_at-requires
step_at-requires c =
    (c.loop-i.invariant.inside, c.requires.1)

pub returns-in_err-t : goal.returns-in_err-t
returns-in_err-t c =
    rw (passed_up _ _ c.from_residual.ensures.1)
    (steps_refused c.args.s.now c.args.names.now c.args.table.now _ _ _ _ c.loop-i.invariant _ c.stands_step.ensures
    c.loop-i-test.true c.if-not-stands_step.false _ c.in_err-t.ensures)

pub offset_bounds-steps-i : goal.offset_bounds-steps-i
offset_bounds-steps-i c =
    omega (arith, c.loop-i-test.true)

pub bounds-steps-i : goal.bounds-steps-i
bounds-steps-i c =
    omega (arith, c.loop-i-test.true, c.loop-i.invariant.long)

pub line_behind-q-requires : goal.line_behind-q-requires
line_behind-q-requires c =
    (c.loop-i.invariant.inside, step-inside c.args.s.now c.loop-i.q _ c.stands_step.ensures c.if-not-stands_step.false)

pub loop-i-preserved : goal.loop-i-preserved
loop-i-preserved c =
    steps_more c.args.s.now c.args.names.now c.args.table.now _ _ _ _ c.loop-i.invariant _ c.stands_step.ensures
    c.loop-i-test.true c.if-not-stands_step.false _ _ c.in_ok-t.ensures c.line_behind-q.ensures

pub stands_step-requires-2 : goal.stands_step-requires-2
stands_step-requires-2 c = c.loop-i.invariant.inside

pub returns-then-stands_step : goal.returns-then-stands_step
returns-then-stands_step c =
    steps-many c.args.s.now c.args.names.now c.args.table.now _ _ _ _ c.loop-i.invariant _ c.stands_step-2.ensures
    c.loop-i-test.false c.if-stands_step.true

pub returns : goal.returns
returns c =
    steps-done c.args.s.now c.args.names.now c.args.table.now _ _ _ _ c.loop-i.invariant _ c.stands_step-2.ensures
    c.loop-i-test.false c.if-stands_step.false
