-- `lines::words::is_word_at` meets its contract. Assumes nothing.
use Rattle.std.proofs.Common.{rules}
use borrow.Author.Tests.{not-true, not-false}
use native.Mathlib.Omega.{arith}
use Rattle.theory.specs.Text.Words.{word_short}
use Rattle.lines.proofs.Bytes.{word-other, word_last, word-followed}
use Rattle.lines.proofs.words.is_word_at.Goals as goal

pub returns-then-at-n : goal.returns-then-at-n
returns-then-at-n c = word_short c.args.word.now c.args.line.now c.args.at (omega (arith, c.requires))

pub returns-then-n-at : goal.returns-then-n-at
returns-then-n-at c = word_short c.args.word.now c.args.line.now c.args.at c.if-n-at.true

pub returns-then-not-stands_at : goal.returns-then-not-stands_at
returns-then-not-stands_at c = word-other _ _ _ _ c.stands_at.ensures c.if-not-stands_at.true

pub returns-then-end-n : goal.returns-then-end-n
returns-then-end-n c = word_last _ _ _ _ c.stands_at.ensures c.if-not-stands_at.false c.if-end-n.true

pub returns : goal.returns
returns c = word-followed _ _ _ _ c.stands_at.ensures c.if-not-stands_at.false c.if-end-n.false
