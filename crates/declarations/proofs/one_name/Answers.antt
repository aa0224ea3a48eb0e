-- `declarations::one_name` meets its contract, by what stands there. Assumes nothing.
use Rattle.std.proofs.Common.{rules}
use mathlib.Core.Path.{sym}
use lib.Seq.{length-take-le}
use Rattle.specification.specs.Words.{bytes}
use borrow.Author.Tests.{not-true, not-false}
use native.Mathlib.Omega.{arith}
use Rattle.declarations.proofs.Turns.{turn_end, turn-vectors, turn-scalars, turn-torn, turn-long, turn_many, turn_twice, turn_more}
use Rattle.declarations.proofs.one_name.Goals as goal

pub returns-then-at-line : goal.returns-then-at-line
returns-then-at-line c =
    let c4 = c in
    turn_end c4.args.line.now c4.args.p c4.args.names.now c4.args.table.now c4.requires.0
    c.if-at-line.true

pub returns-then-is_word_at : goal.returns-then-is_word_at
unfolding bytes
returns-then-is_word_at c =
    let c1 = c in
    let c2 = c in
    let c4 = c in
    let c8 = c in
    turn-vectors c8.args.line.now c8.args.p c8.args.names.now c8.args.table.now c8.requires.0
    c4.if-at-line.false _ c2.is_word_at.ensures _ c1.if-is_word_at.true c.past_blanks-after.ensures

pub returns-then-is_word_at-2 : goal.returns-then-is_word_at-2
unfolding bytes
returns-then-is_word_at-2 c =
    let c1 = c in
    let c2 = c in
    let c4 = c in
    let c5 = c in
    let c7 = c in
    let c11 = c in
    turn-scalars c11.args.line.now c11.args.p c11.args.names.now c11.args.table.now c11.requires.0
    c7.if-at-line.false _ c5.is_word_at.ensures c4.if-is_word_at.false _ c2.is_word_at-2.ensures _ c1.if-is_word_at-2.true c.past_blanks-after-then-is_word_at-2.ensures

pub returns-then-not-is_letter : goal.returns-then-not-is_letter
unfolding bytes
returns-then-not-is_letter c =
    let c1 = c in
    let c2 = c in
    let c3 = c in
    let c4 = c in
    let c5 = c in
    let c7 = c in
    let c8 = c in
    let c10 = c in
    let c14 = c in
    turn-torn c14.args.line.now c14.args.p c14.args.names.now c14.args.table.now c14.requires.0
    c10.if-at-line.false _ c8.is_word_at.ensures c7.if-is_word_at.false _ c5.is_word_at-2.ensures c4.if-is_word_at-2.false _ c3.byte_at-b.ensures _
    c2.is_letter.ensures c1.if-not-is_letter.true

pub returns-then-not-is_word_at : goal.returns-then-not-is_word_at
unfolding bytes
returns-then-not-is_word_at c =
    let c1 = c in
    let c2 = c in
    let c4 = c in
    let c5 = c in
    let c6 = c in
    let c7 = c in
    let c8 = c in
    let c10 = c in
    let c11 = c in
    let c13 = c in
    let c17 = c in
    turn-long c17.args.line.now c17.args.p c17.args.names.now c17.args.table.now c17.requires.0
    c13.if-at-line.false _ c11.is_word_at.ensures c10.if-is_word_at.false _ c8.is_word_at-2.ensures c7.if-is_word_at-2.false _ c6.byte_at-b.ensures _
    c5.is_letter.ensures c4.if-not-is_letter.false _ c2.is_word_at-3.ensures c1.if-not-is_word_at.true

pub returns-then-count-ge24 : goal.returns-then-count-ge24
unfolding bytes
returns-then-count-ge24 c =
    let c1 = c in
    let c2 = c in
    let c3 = c in
    let c5 = c in
    let c6 = c in
    let c7 = c in
    let c8 = c in
    let c9 = c in
    let c11 = c in
    let c12 = c in
    let c14 = c in
    let c18 = c in
    turn_many c18.args.line.now c18.args.p c18.args.names.now c18.args.table.now c18.requires.0
    c14.if-at-line.false _ c12.is_word_at.ensures c11.if-is_word_at.false _ c9.is_word_at-2.ensures c8.if-is_word_at-2.false _ c7.byte_at-b.ensures _
    c6.is_letter.ensures c5.if-not-is_letter.false _ c3.is_word_at-3.ensures c2.if-not-is_word_at.false c18.requires.1 c18.requires.2 c1.if-count-ge24.true

pub slice_bounds-place_of-end-2 : goal.slice_bounds-place_of-end-2
slice_bounds-place_of-end-2 c =
    let c18 = c in
    sym (length-take-le _ c18.args.names.now (omega (arith, c18.requires.0, c18.requires.1)))

pub returns-then-place_of-count : goal.returns-then-place_of-count
unfolding bytes
returns-then-place_of-count c =
    let c1 = c in
    let c2 = c in
    let c4 = c in
    let c5 = c in
    let c6 = c in
    let c8 = c in
    let c9 = c in
    let c10 = c in
    let c11 = c in
    let c12 = c in
    let c14 = c in
    let c15 = c in
    let c17 = c in
    let c21 = c in
    turn_twice c21.args.line.now c21.args.p c21.args.names.now c21.args.table.now c21.requires.0
    c17.if-at-line.false _ c15.is_word_at.ensures c14.if-is_word_at.false _ c12.is_word_at-2.ensures c11.if-is_word_at-2.false _ c10.byte_at-b.ensures _
    c9.is_letter.ensures c8.if-not-is_letter.false _ c6.is_word_at-3.ensures c5.if-not-is_word_at.false c21.requires.1 c21.requires.2
    c4.if-count-ge24.false _ c2.place_of.ensures c1.if-place_of-count.true

pub returns : goal.returns
unfolding bytes
returns c =
    let c1 = c in
    let c2 = c in
    let c4 = c in
    let c5 = c in
    let c6 = c in
    let c8 = c in
    let c9 = c in
    let c10 = c in
    let c11 = c in
    let c12 = c in
    let c14 = c in
    let c15 = c in
    let c17 = c in
    let c21 = c in
    turn_more c21.args.line.now c21.args.p c21.args.names.now c21.args.table.now c21.requires.0
    c17.if-at-line.false _ c15.is_word_at.ensures c14.if-is_word_at.false _ c12.is_word_at-2.ensures c11.if-is_word_at-2.false _ c10.byte_at-b.ensures _
    c9.is_letter.ensures c8.if-not-is_letter.false _ c6.is_word_at-3.ensures c5.if-not-is_word_at.false c21.requires.1 c21.requires.2
    c4.if-count-ge24.false _ c2.place_of.ensures _ c1.if-place_of-count.false c.behind-after.ensures
