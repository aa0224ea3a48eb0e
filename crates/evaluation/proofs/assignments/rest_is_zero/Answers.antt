-- `evaluation::assignments::rest_is_zero` meets its contract. Assumes nothing.
use mathlib.Core.Path.{sym, ap, ◌∙◌}
use Prim.Native.Nat.{ℕ}
use lib.Dec.{eqb}
use Rattle.evaluation.proofs.Assigned.{rest_of-vector, second-not_zero, third-decides}
use Rattle.evaluation.proofs.assignments.rest_is_zero.Goals as goal

pub returns-then-kind_of-eq1 : goal.returns-then-kind_of-eq1
returns-then-kind_of-eq1 c = rest_of-vector _ _ _ (sym c.kind_of.ensures ∙ c.if-kind_of-eq1.true)

pub returns-then-byte-ne0 : goal.returns-then-byte-ne0
returns-then-byte-ne0 c = second-not_zero _ _ _ (λ e. c.if-kind_of-eq1.false (c.kind_of.ensures ∙ e)) (λ e. c.if-byte-ne0.true (c.byte.ensures ∙ e))

pub returns : goal.returns
returns c =
    ap (λ (k : ℕ). eqb k 0) c.byte-2.ensures ∙ third-decides _ _ _
    (λ e. c.if-kind_of-eq1.false (c.kind_of.ensures ∙ e))
    (sym c.byte.ensures ∙ c.if-byte-ne0.false)
