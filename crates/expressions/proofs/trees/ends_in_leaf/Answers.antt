-- `expressions::trees::ends_in_leaf` meets its contract. Assumes nothing.
use mathlib.Core.Path.{ap, sym, ◌∙◌}
use mathlib.Core.Bool.{true≢false}
use borrow.Author.Tests.{eqb-true}
use lib.ListN.{get_or-eq_default}
use Rattle.expressions.specs.Trees.{operand_count}
use Rattle.expressions.proofs.trees.ends_in_leaf.Goals as goal

pub returns-then-k-ne2 : goal.returns-then-k-ne2
returns-then-k-ne2 c = λ e. absurd (true≢false (sym e))

pub returns-then-at-s : goal.returns-then-at-s
unfolding operand_count
returns-then-at-s c = λ e. (c.if-k-ne2.false, ap operand_count (get_or-eq_default c.args.s.now 0 c.if-at-s.true))

pub returns : goal.returns
returns c = λ e. (c.if-k-ne2.false, sym c.operands.ensures ∙ eqb-true _ _ e)
