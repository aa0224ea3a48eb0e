-- `forms::read_both` meets its contract. Assumes nothing.
use Rattle.std.proofs.Common.{rules}
use Rattle.refusal.proofs.Passing.{passed_up}
use Rattle.forms.proofs.BothForms.{first_unread, second_unread, first_other, second_other, both_read}
use Rattle.forms.proofs.read_both.Goals as goal

pub returns-in_err-f : goal.returns-in_err-f
returns-in_err-f c = rw (passed_up _ _ c.from_residual.ensures.1) (first_unread _ _ _ _ c.in_err-f.ensures)

pub returns-in_err-g : goal.returns-in_err-g
returns-in_err-g c = rw (passed_up _ _ c.from_residual-in_err-g.ensures.1) (second_unread _ _ _ _ c.in_ok-f.ensures _ c.in_err-g.ensures)

pub test_terms-requires : goal.test_terms-requires
test_terms-requires c = record { few = c.in_ok-f.ensures.valid.few; counted = c.in_ok-f.ensures.valid.counted }

pub returns-in_err-test_terms : goal.returns-in_err-test_terms
returns-in_err-test_terms c = rw (passed_up _ _ c.from_residual-in_err-test_terms.ensures.1) (first_other _ _ _ _ c.in_ok-f.ensures _ c.in_ok-g.ensures _ c.in_err-test_terms.ensures)

pub test_terms-requires-2 : goal.test_terms-requires-2
test_terms-requires-2 c = record { few = c.in_ok-g.ensures.valid.few; counted = c.in_ok-g.ensures.valid.counted }

pub returns-in_err-test_terms-2 : goal.returns-in_err-test_terms-2
returns-in_err-test_terms-2 c = rw (passed_up _ _ c.from_residual-in_err-test_terms-2.ensures.1)
    (second_other _ _ _ _ c.in_ok-f.ensures _ c.in_ok-g.ensures _ c.in_ok-test_terms.ensures _ c.in_err-test_terms-2.ensures)

pub returns : goal.returns
returns c = both_read _ _ _ _ c.in_ok-f.ensures _ c.in_ok-g.ensures _ c.in_ok-test_terms.ensures _ c.in_ok-test_terms-2.ensures
