-- `forms::read_form` meets its contract. Assumes nothing.
use Rattle.std.proofs.Common.{rules}
use Rattle.refusal.proofs.Passing.{passed_up}
use Rattle.forms.proofs.Takers.{take-unread, take-other, take_tested}
use Rattle.forms.proofs.read_form.Goals as goal

pub returns-in_err-f : goal.returns-in_err-f
returns-in_err-f c = rw (passed_up _ _ c.from_residual.ensures.1) (take-unread _ _ _ c.in_err-f.ensures)

pub test_terms-requires : goal.test_terms-requires
test_terms-requires c = record { few = c.in_ok-f.ensures.valid.few; counted = c.in_ok-f.ensures.valid.counted }

pub returns-in_err-test_terms : goal.returns-in_err-test_terms
returns-in_err-test_terms c = rw (passed_up _ _ c.from_residual-in_err-test_terms.ensures.1) (take-other _ _ _ c.in_ok-f.ensures _ c.in_err-test_terms.ensures)

pub returns : goal.returns
returns c = take_tested _ _ _ c.in_ok-f.ensures _ c.in_ok-test_terms.ensures
