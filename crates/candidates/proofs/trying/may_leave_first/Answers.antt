use mathlib.Core.Path.{subst}
use lib.Dec.{T}
use Rattle.candidates.proofs.trying.may_leave_first.Goals as goal

pub returns-then-rule-ne5 : goal.returns-then-rule-ne5
returns-then-rule-ne5 c = λ e. absurd (subst T e tt)
