-- `declarations::is_declaration` meets its contract. Assumes nothing.
use Rattle.std.proofs.Common.{rules}
use Rattle.specification.specs.Words.{bytes}
use Rattle.declarations.proofs.Turns.{declares-vectors, declares-scalars}
use Rattle.declarations.proofs.is_declaration.Goals as goal

pub returns-then-is_word_at : goal.returns-then-is_word_at
unfolding bytes
returns-then-is_word_at c = declares-vectors c.args.line.now _ _ c.past_blanks-at.ensures c.is_word_at.ensures c.if-is_word_at.true

pub returns : goal.returns
unfolding bytes
returns c =
    let c2 = c in
    let c3 = c in
    let c5 = c in
    let c7 = c in
    declares-scalars c7.args.line.now _ _ c5.past_blanks-at.ensures c3.is_word_at.ensures _ c2.if-is_word_at.false c.is_word_at-2.ensures
