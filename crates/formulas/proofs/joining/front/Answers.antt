-- `formulas::joining::front` meets its contract. Assumes nothing.
use Rattle.formulas.proofs.Results.{front-level, front-byte, front_refused, front-turned}
use Rattle.rows.specs.Rows.{FormRun}
use Rattle.std.proofs.lemmas.Result.{IfOk-at_ok}
use Rattle.formulas.proofs.joining.front.Goals as goal

pub returns-then-level-ne4 : goal.returns-then-level-ne4
returns-then-level-ne4 c = front-level _ _ _ _ _ c.requires c.if-level-ne4.true

pub returns-then-b-ne45 : goal.returns-then-b-ne45
returns-then-b-ne45 c = front-byte _ _ _ _ _ c.requires c.if-level-ne4.false c.if-b-ne45.true

pub returns-in_default : goal.returns-in_default
returns-in_default c = front_refused _ _ _ _ _ c.requires _ c.if-level-ne4.false c.if-b-ne45.false c.in_default.is

pub negate-requires : goal.negate-requires
negate-requires c =
    let h = IfOk-at_ok (λ w. FormRun w.kind w.count c.args.rows.now c.args.coefs.now) c.in-Ok.is c.requires.form in (h.run.beside, h.light)

pub returns-in-Ok : goal.returns-in-Ok
returns-in-Ok c = front-turned _ _ _ _ _ c.requires _ _ c.if-level-ne4.false c.if-b-ne45.false c.in-Ok.is c.negate.ensures c.negate.auto.coefs
