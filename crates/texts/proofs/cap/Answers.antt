-- `texts::cap` meets its contract. Assumes nothing.
use Rattle.std.proofs.Common.{rules}
use borrow.Author.Tests.{le-leb, lt-leb}
use Rattle.texts.specs.Numbers.{capped}
use Rattle.texts.proofs.cap.Goals as goal

pub returns-then-n-le2147483647 : goal.returns-then-n-le2147483647
unfolding capped
returns-then-n-le2147483647 c = rw (le-leb _ 2147483647 c.if-n-le2147483647.true)

pub returns : goal.returns
unfolding capped
returns c = rw (lt-leb _ 2147483647 c.if-n-le2147483647.false)
