-- `elimination::elimination::most` meets its contract. Assumes nothing.
use mathlib.Core.Path.{sym, ◌∙◌}
use Rattle.elimination.proofs.Choices.{most-vector, most-scalar}
use Rattle.elimination.proofs.elimination.most.Goals as goal

pub returns-then-kind_of-eq1 : goal.returns-then-kind_of-eq1
returns-then-kind_of-eq1 c = most-vector _ _ (sym c.kind_of.ensures ∙ c.if-kind_of-eq1.true)

pub returns-else-kind_of-eq1 : goal.returns-else-kind_of-eq1
returns-else-kind_of-eq1 c = most-scalar _ _ (λ e. c.if-kind_of-eq1.false (c.kind_of.ensures ∙ e))
