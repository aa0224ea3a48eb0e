-- `limits::test_limits` meets its contract. Assumes nothing.
use Rattle.std.proofs.Common.{rules}
use mathlib.Core.Path.{sym, ◌∙◌}
use borrow.Author.Tests.{not-true, not-false}
use Rattle.limits.proofs.Limits.{tested_9, tested_10, tested_none}
use Rattle.limits.proofs.test_limits.Goals as goal

pub returns-then-not-fine : goal.returns-then-not-fine
returns-then-not-fine c = tested_9 _ _ c.requires.0 (sym c.all_below-fine.ensures ∙ c.if-not-fine.true)

pub returns-then-n-gt48 : goal.returns-then-n-gt48
returns-then-n-gt48 c = tested_10 _ _ c.requires.0 (sym c.all_below-fine.ensures ∙ c.if-not-fine.false)
    c.if-n-gt48.true

pub returns : goal.returns
returns c = tested_none _ _ c.requires.0 (sym c.all_below-fine.ensures ∙ c.if-not-fine.false)
    c.if-n-gt48.false
