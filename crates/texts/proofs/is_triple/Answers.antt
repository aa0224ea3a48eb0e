-- `texts::is_triple` meets its contract: each name in turn, then the parenthesis. Assumes nothing.
use Rattle.std.proofs.Common.{rules}
use mathlib.Core.Path.{◌∙◌, ap}
use mathlib.Core.Bool.{true}
use Rattle.specification.specs.Text.{is_letter}
use borrow.Author.Tests.{not-true, not-false}
use Rattle.texts.proofs.Standing.{letter-inside, no_first, no_second, no_third, three-names}
use Rattle.texts.proofs.is_triple.Goals as goal

pub returns-then-not-is_letter : goal.returns-then-not-is_letter
returns-then-not-is_letter c =
    let c1 = c in
    let c2 = c in
    let c4 = c in
    no_first c4.args.s.now c4.args.at 0 0 0 _ true true (c1.is_letter.ensures ∙ ap is_letter c2.byte_at.ensures) c.if-not-is_letter.true

pub behind-second-requires : goal.behind-second-requires
behind-second-requires c =
    let c1 = c in
    let c2 = c in
    let c4 = c in
    letter-inside c4.args.s.now c4.args.at _ _ c2.byte_at.ensures c1.is_letter.ensures c.if-not-is_letter.false

pub returns-then-not-is_letter-2 : goal.returns-then-not-is_letter-2
returns-then-not-is_letter-2 c =
    let c1 = c in
    let c2 = c in
    let c3 = c in
    let c4 = c in
    let c5 = c in
    let c6 = c in
    let c8 = c in
    no_second c8.args.s.now c8.args.at _ 0 0 _ _ true (c5.is_letter.ensures ∙ ap is_letter c6.byte_at.ensures) c3.behind-second.ensures
    (c1.is_letter-2.ensures ∙ ap is_letter c2.byte_at-2.ensures) c4.if-not-is_letter.false c.if-not-is_letter-2.true

pub behind-third-requires : goal.behind-third-requires
behind-third-requires c =
    let c1 = c in
    let c2 = c in
    let c3 = c in
    let c8 = c in
    letter-inside c8.args.s.now c3.behind-second.result _ _ c2.byte_at-2.ensures c1.is_letter-2.ensures c.if-not-is_letter-2.false

pub returns-then-not-is_letter-3 : goal.returns-then-not-is_letter-3
returns-then-not-is_letter-3 c =
    let c1 = c in
    let c2 = c in
    let c3 = c in
    let c4 = c in
    let c5 = c in
    let c6 = c in
    let c7 = c in
    let c8 = c in
    let c9 = c in
    let c10 = c in
    let c12 = c in
    no_third c12.args.s.now c12.args.at _ _ 0 _ _ _ (c9.is_letter.ensures ∙ ap is_letter c10.byte_at.ensures) c7.behind-second.ensures
    (c5.is_letter-2.ensures ∙ ap is_letter c6.byte_at-2.ensures) c8.if-not-is_letter.false c3.behind-third.ensures
    (c1.is_letter-3.ensures ∙ ap is_letter c2.byte_at-3.ensures) c4.if-not-is_letter-2.false c.if-not-is_letter-3.true

pub behind-requires : goal.behind-requires
behind-requires c =
    let c1 = c in
    let c2 = c in
    let c3 = c in
    let c12 = c in
    letter-inside c12.args.s.now c3.behind-third.result _ _ c2.byte_at-3.ensures c1.is_letter-3.ensures c.if-not-is_letter-3.false

pub returns : goal.returns
returns c =
    let c1 = c in
    let c2 = c in
    let c3 = c in
    let c4 = c in
    let c5 = c in
    let c6 = c in
    let c7 = c in
    let c8 = c in
    let c9 = c in
    let c10 = c in
    let c11 = c in
    let c12 = c in
    let c14 = c in
    three-names c14.args.s.now c14.args.at _ _ _ _ _ _ (c11.is_letter.ensures ∙ ap is_letter c12.byte_at.ensures) c9.behind-second.ensures
    (c7.is_letter-2.ensures ∙ ap is_letter c8.byte_at-2.ensures) c10.if-not-is_letter.false c5.behind-third.ensures
    (c3.is_letter-3.ensures ∙ ap is_letter c4.byte_at-3.ensures) c6.if-not-is_letter-2.false _ c1.behind.ensures c.byte_at-4.ensures
    c2.if-not-is_letter-3.false
