-- `evaluation::assignments::good_assignment` meets its contract. Assumes nothing.
use mathlib.Core.Path.{sym, ◌∙◌}
use Rattle.evaluation.proofs.Assigned.{wrong-length, not-small, rest-decides}
use Rattle.evaluation.proofs.assignments.good_assignment.Goals as goal

pub returns-then-s-table : goal.returns-then-s-table
returns-then-s-table c = wrong-length _ _ c.if-s-table.true

pub returns-then-not-all_small : goal.returns-then-not-all_small
returns-then-not-all_small c = not-small _ _ c.if-s-table.false (sym c.all_small.ensures ∙ c.if-not-all_small.true)

pub returns : goal.returns
returns c =
    c.all_rest_zero.ensures ∙ rest-decides _ _ c.if-s-table.false
    (sym c.all_small.ensures ∙ c.if-not-all_small.false)
