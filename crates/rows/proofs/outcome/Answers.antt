-- `rows::outcome` meets its contract. Assumes nothing.
use Rattle.std.proofs.Common.{rules}
use Rattle.std.proofs.lemmas.Result.{IfOk-at_ok}
use Rattle.refusal.proofs.Passing.{passed_up}
use Rattle.rows.specs.Rows.{FormRun}
use Rattle.rows.specs.declared.Worked.{Worked}
use Rattle.rows.proofs.RowForms.{refusal_handed, form_handed}
use Rattle.rows.proofs.outcome.Goals as goal

pub returns-in_err-held : goal.returns-in_err-held
returns-in_err-held c = rw (passed_up _ _ c.from_residual.ensures.1) (refusal_handed _ _ _ _ c.in_err-held.was)

pub form_of-requires : goal.form_of-requires
form_of-requires c = let v = IfOk-at_ok (λ (w : Worked). FormRun w.kind w.count c.args.rows.now c.args.coefs.now) c.in_ok-held.was c.requires in (v.run, v.few)

pub returns : goal.returns
returns c = form_handed _ _ _ _ c.in_ok-held.was _ c.form_of.ensures
