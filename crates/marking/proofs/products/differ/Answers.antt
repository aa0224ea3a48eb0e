use mathlib.Core.Path.{sym, subst}
use lib.Dec.{T}
use Rattle.marking.proofs.products.differ.Goals as goal

pub returns-then-l-x : goal.returns-then-l-x
returns-then-l-x c = λ e. absurd (subst T (sym e) tt)

pub returns-then-l-x-2 : goal.returns-then-l-x-2
returns-then-l-x-2 c = λ e. absurd (subst T (sym e) tt)

pub returns-then-l-y : goal.returns-then-l-y
returns-then-l-y c = λ e. absurd (subst T (sym e) tt)

pub returns : goal.returns
returns c = λ e. record { first = λ h. c.if-l-x.false; second = λ h. c.if-l-x-2.false; third = λ h. c.if-l-y.false }
