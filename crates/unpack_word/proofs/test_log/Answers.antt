-- `unpack_word::test_log` meets its contract, test by test. Assumes nothing.
use Rattle.std.proofs.Common.{rules}
use Rattle.refusal.proofs.Passing.{passed_up}
use native.Mathlib.Omega.{arith}
use Rattle.logs.proofs.StepRecords.{steps-long}
use Rattle.unpack_word.proofs.Tests.{first_found, steps-found, last_found}
use Rattle.unpack_word.proofs.test_log.Goals as goal

pub test_terms-requires : goal.test_terms-requires
test_terms-requires c = let v = c.requires.0 in record { few = v.few; counted = v.counted }

pub returns-in_err-at_step : goal.returns-in_err-at_step
returns-in_err-at_step c = rw (passed_up _ _ c.from_residual.ensures.1) (first_found _ _ _ _ _ c.test_terms.ensures _ c.in_err-at_step.ensures)

pub returns-in_err-test_steps : goal.returns-in_err-test_steps
returns-in_err-test_steps c =
    rw (passed_up _ _ c.from_residual-in_err-test_steps.ensures.1)
    (steps-found _ _ _ _ _ c.test_terms.ensures _ c.in_ok-at_step.ensures _ c.in_err-test_steps.ensures)

pub test_terms-requires-2 : goal.test_terms-requires-2
test_terms-requires-2 c =
    let v = c.requires.2 in record { few = v.few; counted = v.counted }

pub overflow_add-q : goal.overflow_add-q
overflow_add-q c = omega (arith, c.requires.1.few)

pub overflow_cast-q : goal.overflow_cast-q
overflow_cast-q c = omega (arith, c.requires.1.few)

pub returns : goal.returns
returns c =
    last_found _ _ _ _ _ c.test_terms.ensures _ c.in_ok-at_step.ensures _ c.in_ok-test_steps.ensures _ (steps-long _ c.requires.1) _
    c.test_terms-2.ensures _ c.at_step-2.ensures
