-- `log_texts::kinds::read_multiplier` meets its contract. Assumes nothing.
use Rattle.std.proofs.Common.{rules}
use Rattle.refusal.proofs.Passing.{passed_up}
use Rattle.log_texts.proofs.Told.{multiplier_refused, multiplier-by}
use Rattle.log_texts.proofs.kinds.read_multiplier.Goals as goal

pub returns-in_err-f : goal.returns-in_err-f
returns-in_err-f c = rw (passed_up _ _ c.from_residual.ensures.1) (multiplier_refused _ _ _ _ _ c.in_err-f.ensures)

pub one_term-requires : goal.one_term-requires
one_term-requires c = c.in_ok-f.ensures.valid

pub returns : goal.returns
returns c = multiplier-by _ _ _ _ _ c.in_ok-f.ensures _ c.one_term.ensures
