-- `formulas::joining::join` meets its contract: the first refusal, or the operator. Assumes nothing.
use Rattle.formulas.proofs.Results.{left_refused, right_refused, both-worked}
use Rattle.rows.specs.Rows.{FormRun}
use Rattle.std.proofs.lemmas.Result.{IfOk-at_ok}
use Rattle.formulas.proofs.joining.join.Goals as goal

pub returns-in_default : goal.returns-in_default
returns-in_default c = left_refused _ _ _ _ _ _ _ _ _ _ _ c.in_default.is

pub returns-in_default-work : goal.returns-in_default-work
returns-in_default-work c = right_refused _ _ _ _ _ _ _ _ _ _ _ _ c.in-Ok.is c.in_default-work.is

pub operate-work-requires : goal.operate-work-requires
operate-work-requires c =
    let p = c.requires in (
      IfOk-at_ok (λ w. FormRun w.kind w.count c.args.rows.now c.args.coefs.now) c.in-Ok.is p.0.form,
      IfOk-at_ok (λ w. FormRun w.kind w.count c.args.right.now c.args.rights.now) c.in-Ok-work.is p.1.form,
      p.2,
      p.3,
    )

pub returns : goal.returns
returns c = both-worked _ _ _ _ _ _ _ _ _ _ _ _ _ c.in-Ok.is c.in-Ok-work.is c.operate-work.ensures
