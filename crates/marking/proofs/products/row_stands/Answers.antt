use mathlib.Core.Path.{sym, subst}
use lib.Dec.{T}
use Rattle.marking.proofs.products.row_stands.Goals as goal

pub returns-then-not-differ : goal.returns-then-not-differ
returns-then-not-differ c = λ e. absurd (subst T (sym e) tt)

pub returns-then-not-differ-2 : goal.returns-then-not-differ-2
returns-then-not-differ-2 c = λ e. absurd (subst T (sym e) tt)

pub returns-then-not-differ-3 : goal.returns-then-not-differ-3
returns-then-not-differ-3 c = λ e. absurd (subst T (sym e) tt)

pub returns-then-j-eq0 : goal.returns-then-j-eq0
returns-then-j-eq0 c = λ e. record { first = c.differ.ensures c.if-not-differ.false; second = c.differ-2.ensures c.if-not-differ-2.false; third = c.differ-3.ensures c.if-not-differ-3.false; part = λ h. absurd (h c.if-j-eq0.true) }

pub returns-then-l-i : goal.returns-then-l-i
returns-then-l-i c = λ e. absurd (subst T (sym e) tt)

pub returns : goal.returns
returns c = λ e. record { first = c.differ.ensures c.if-not-differ.false; second = c.differ-2.ensures c.if-not-differ-2.false; third = c.differ-3.ensures c.if-not-differ-3.false; part = λ h. c.if-l-i.false }
