use mathlib.Core.Path.{sym, subst, ◌∙◌}
use lib.Dec.{T}
use borrow.Author.Tests.{not-true}
use Rattle.term_trees.proofs.is_without.Goals as goal

pub returns-then-k-t : goal.returns-then-k-t
returns-then-k-t c = λ e. absurd (subst T (sym e) tt)

pub returns : goal.returns
returns c = λ e. (c.if-k-t.false, sym c.part_has.ensures ∙ not-true _ e)
