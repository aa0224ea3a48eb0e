-- `replaying::replay` meets its contract. Assumes nothing.
use Rattle.std.proofs.Common.{rules}
use native.Mathlib.Omega.{arith}
use Rattle.rows.proofs.RowForms.{held_is, held-run}
use Rattle.refusal.proofs.Passing.{passed_up}
use Rattle.replaying.proofs.Replays.{other-reached, not-replayed, replayed}
use Rattle.replaying.proofs.replay.Goals as goal

pub take_steps-requires : goal.take_steps-requires
take_steps-requires c = (held-run _ _ _ c.requires.0 c.hold.ensures, omega arith, omega arith, c.requires.2)

pub returns-in_err-count : goal.returns-in_err-count
returns-in_err-count c = rw (passed_up _ _ c.from_residual.ensures.1) (not-replayed c.args.f c.args.last _ _ _ _ _ _ (held_is c.args.f _ _ c.hold.ensures) _ c.in_err-count.ensures)

pub same_form-requires : goal.same_form-requires
same_form-requires c = (c.requires.1, c.in_ok-count.ensures.form.run)

pub overflow_cast-result : goal.overflow_cast-result
overflow_cast-result c = omega (arith, c.requires.2.few)

pub returns-then-not-same_form : goal.returns-then-not-same_form
returns-then-not-same_form c = other-reached c.args.f c.args.last _ _ _ _ _ _ (held_is c.args.f _ _ c.hold.ensures) _ c.in_ok-count.ensures _ c.same_form.ensures c.if-not-same_form.true

pub returns : goal.returns
returns c = replayed c.args.f c.args.last _ _ _ _ _ _ (held_is c.args.f _ _ c.hold.ensures) _ c.in_ok-count.ensures _ c.same_form.ensures c.if-not-same_form.false
