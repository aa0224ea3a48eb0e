-- `log_texts::kinds::kind_at` meets its contract. Assumes nothing.
use Rattle.std.proofs.Common.{rules}
use Rattle.refusal.proofs.Passing.{passed_up}
use Rattle.log_texts.proofs.Told.{kind_refused, kind_given}
use Rattle.log_texts.proofs.kinds.kind_at.Goals as goal

pub returns-in_err-f : goal.returns-in_err-f
returns-in_err-f c = rw (passed_up _ _ c.from_residual.ensures.1) (kind_refused _ _ _ _ _ _ c.in_err-f.ensures)

pub of_kind-requires : goal.of_kind-requires
of_kind-requires c = (c.in_ok-f.ensures.valid, c.requires.2)

pub returns : goal.returns
returns c = kind_given _ _ _ _ _ _ c.in_ok-f.ensures _ c.of_kind.ensures
