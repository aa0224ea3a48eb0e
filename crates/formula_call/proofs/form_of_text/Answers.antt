-- `formula_call::form_of_text` meets its contract: what was refused with its column, or the form. Assumes nothing.
use Rattle.std.proofs.Common.{rules}
use Rattle.refusal.proofs.Passing.{passed_up}
use Rattle.formula_call.proofs.Calls.{text-unread, text-worked}
use Rattle.formula_call.proofs.form_of_text.Goals as goal

pub returns-in_err-w : goal.returns-in_err-w
returns-in_err-w c = rw (passed_up _ _ c.from_residual.ensures.1) (text-unread _ _ _ _ c.in_err-w.ensures)

pub form_of-requires : goal.form_of-requires
form_of-requires c = let f = c.in_ok-w.ensures.form in (f.run, f.few)

pub returns : goal.returns
returns c = text-worked _ _ _ _ _ c.in_ok-w.ensures c.form_of.ensures
