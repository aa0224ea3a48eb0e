-- `texts::is_digit` meets its contract. Assumes nothing.
use Rattle.std.proofs.Common.{rules}
use borrow.Author.Tests.{le-leb, lt-leb}
use Rattle.specification.specs.Text.{is_digit}
use Rattle.texts.proofs.is_digit.Goals as goal

pub returns-then-b-lt48 : goal.returns-then-b-lt48
unfolding is_digit
returns-then-b-lt48 c = rw (lt-leb 48 _ c.if-b-lt48.true)

pub returns : goal.returns
unfolding is_digit
returns c = rw (le-leb 48 _ c.if-b-lt48.false)
