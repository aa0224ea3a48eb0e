use Rattle.std.proofs.Common.{rules}
use mathlib.Core.Path.{sym, ◌∙◌}
use Rattle.letters.proofs.LetterTests.{letter-absent, letter-other, letter_good}
use Rattle.letters.proofs.test_letter.Goals as goal

pub returns-then-n-table : goal.returns-then-n-table
returns-then-n-table c = letter-absent _ _ _ c.if-n-table.true

pub returns-then-kind_of-kind : goal.returns-then-kind_of-kind
returns-then-kind_of-kind c = letter-other _ _ _ c.if-n-table.false λ e. c.if-kind_of-kind.true (c.kind_of.ensures ∙ e)

pub returns : goal.returns
returns c = letter_good _ _ _ c.if-n-table.false (sym c.kind_of.ensures ∙ c.if-kind_of-kind.false)
