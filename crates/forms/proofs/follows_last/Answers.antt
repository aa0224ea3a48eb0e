use Rattle.std.proofs.Common.{rules}
use mathlib.Core.Path.{◌∙◌}
use Rattle.forms.proofs.Takers.{comes_first, comes_after}
use Rattle.terms.proofs.Orders.{is_lt-is_less}
use Rattle.forms.proofs.follows_last.Goals as goal

pub returns-then-n-eq0 : goal.returns-then-n-eq0
returns-then-n-eq0 c = comes_first _ _ _ c.if-n-eq0.true

pub returns : goal.returns
returns c = c.is_lt.ensures ∙ is_lt-is_less _ ∙ comes_after _ _ _ c.if-n-eq0.false _ c.compare.ensures
