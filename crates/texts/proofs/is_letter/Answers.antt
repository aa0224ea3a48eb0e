-- `texts::is_letter` meets its contract: below A, up to Z, below a, up to z. Assumes nothing.
use Rattle.std.proofs.Common.{rules}
use Rattle.texts.proofs.Standing.{letter-below, letter-upper, letter-between, letter-above}
use Rattle.texts.proofs.is_letter.Goals as goal

pub returns-then-b-lt65 : goal.returns-then-b-lt65
returns-then-b-lt65 c = letter-below _ c.if-b-lt65.true

pub returns-then-b-le90 : goal.returns-then-b-le90
returns-then-b-le90 c = letter-upper _ c.if-b-lt65.false c.if-b-le90.true

pub returns-then-b-lt97 : goal.returns-then-b-lt97
returns-then-b-lt97 c = letter-between _ c.if-b-le90.false c.if-b-lt97.true

pub returns : goal.returns
returns c = letter-above _ c.if-b-le90.false c.if-b-lt97.false
