-- `command::answer` meets its contract. Assumes nothing.
use Rattle.std.proofs.Common.{rules}
use mathlib.Core.Path.{sym, ◌∙◌}
use Rattle.specification.specs.Words.{bytes}
use Rattle.command.proofs.Answers.{decides, shortens, reduces, values, checks, packs, unpacks, derives, helps}
use Rattle.command.proofs.answer.Goals as goal

pub returns-then-same_bytes : goal.returns-then-same_bytes
unfolding bytes
returns-then-same_bytes c =
    let c2 = c in
    let c4 = c in
    let c5 = c in
    let c10 = c in
    decides c10.args.word.now c10.args.s.now _ _ (sym c5.same_bytes.ensures ∙ c4.if-same_bytes.true) c2.decide_text.ensures

pub returns-then-same_bytes-2 : goal.returns-then-same_bytes-2
unfolding bytes
returns-then-same_bytes-2 c =
    let c2 = c in
    let c4 = c in
    let c5 = c in
    let c7 = c in
    let c8 = c in
    let c13 = c in
    shortens c13.args.word.now c13.args.s.now _ _ (sym c8.same_bytes.ensures ∙ c7.if-same_bytes.false)
    (sym c5.same_bytes-2.ensures ∙ c4.if-same_bytes-2.true) c2.shorten_text.ensures

pub returns-then-same_bytes-3 : goal.returns-then-same_bytes-3
unfolding bytes
returns-then-same_bytes-3 c =
    let c2 = c in
    let c4 = c in
    let c5 = c in
    let c7 = c in
    let c8 = c in
    let c10 = c in
    let c11 = c in
    let c16 = c in
    reduces c16.args.word.now c16.args.s.now _ _ (sym c11.same_bytes.ensures ∙ c10.if-same_bytes.false)
    (sym c8.same_bytes-2.ensures ∙ c7.if-same_bytes-2.false) (sym c5.same_bytes-3.ensures ∙ c4.if-same_bytes-3.true) c2.reduce_text.ensures

pub returns-then-same_bytes-4 : goal.returns-then-same_bytes-4
unfolding bytes
returns-then-same_bytes-4 c =
    let c2 = c in
    let c4 = c in
    let c5 = c in
    let c7 = c in
    let c8 = c in
    let c10 = c in
    let c11 = c in
    let c13 = c in
    let c14 = c in
    let c19 = c in
    values c19.args.word.now c19.args.s.now _ _ (sym c14.same_bytes.ensures ∙ c13.if-same_bytes.false)
    (sym c11.same_bytes-2.ensures ∙ c10.if-same_bytes-2.false) (sym c8.same_bytes-3.ensures ∙ c7.if-same_bytes-3.false) (sym c5.same_bytes-4.ensures ∙ c4.if-same_bytes-4.true)
    c2.value_text.ensures

pub returns-then-same_bytes-5 : goal.returns-then-same_bytes-5
unfolding bytes
returns-then-same_bytes-5 c =
    let c2 = c in
    let c4 = c in
    let c5 = c in
    let c7 = c in
    let c8 = c in
    let c10 = c in
    let c11 = c in
    let c13 = c in
    let c14 = c in
    let c16 = c in
    let c17 = c in
    let c22 = c in
    checks c22.args.word.now c22.args.s.now _ _ (sym c17.same_bytes.ensures ∙ c16.if-same_bytes.false)
    (sym c14.same_bytes-2.ensures ∙ c13.if-same_bytes-2.false) (sym c11.same_bytes-3.ensures ∙ c10.if-same_bytes-3.false) (sym c8.same_bytes-4.ensures ∙ c7.if-same_bytes-4.false)
    (sym c5.same_bytes-5.ensures ∙ c4.if-same_bytes-5.true) c2.check_text.ensures

pub returns-then-same_bytes-6 : goal.returns-then-same_bytes-6
unfolding bytes
returns-then-same_bytes-6 c =
    let c2 = c in
    let c4 = c in
    let c5 = c in
    let c7 = c in
    let c8 = c in
    let c10 = c in
    let c11 = c in
    let c13 = c in
    let c14 = c in
    let c16 = c in
    let c17 = c in
    let c19 = c in
    let c20 = c in
    let c25 = c in
    packs c25.args.word.now c25.args.s.now _ _ (sym c20.same_bytes.ensures ∙ c19.if-same_bytes.false)
    (sym c17.same_bytes-2.ensures ∙ c16.if-same_bytes-2.false) (sym c14.same_bytes-3.ensures ∙ c13.if-same_bytes-3.false)
    (sym c11.same_bytes-4.ensures ∙ c10.if-same_bytes-4.false) (sym c8.same_bytes-5.ensures ∙ c7.if-same_bytes-5.false) (sym c5.same_bytes-6.ensures ∙ c4.if-same_bytes-6.true)
    c2.pack_text.ensures

pub returns-then-same_bytes-7 : goal.returns-then-same_bytes-7
unfolding bytes
returns-then-same_bytes-7 c =
    let c2 = c in
    let c4 = c in
    let c5 = c in
    let c7 = c in
    let c8 = c in
    let c10 = c in
    let c11 = c in
    let c13 = c in
    let c14 = c in
    let c16 = c in
    let c17 = c in
    let c19 = c in
    let c20 = c in
    let c22 = c in
    let c23 = c in
    let c28 = c in
    unpacks c28.args.word.now c28.args.s.now _ _ (sym c23.same_bytes.ensures ∙ c22.if-same_bytes.false)
    (sym c20.same_bytes-2.ensures ∙ c19.if-same_bytes-2.false) (sym c17.same_bytes-3.ensures ∙ c16.if-same_bytes-3.false)
    (sym c14.same_bytes-4.ensures ∙ c13.if-same_bytes-4.false) (sym c11.same_bytes-5.ensures ∙ c10.if-same_bytes-5.false) (sym c8.same_bytes-6.ensures ∙ c7.if-same_bytes-6.false)
    (sym c5.same_bytes-7.ensures ∙ c4.if-same_bytes-7.true) c2.unpack_text.ensures

pub returns-then-same_bytes-8 : goal.returns-then-same_bytes-8
unfolding bytes
returns-then-same_bytes-8 c =
    let c2 = c in
    let c4 = c in
    let c5 = c in
    let c7 = c in
    let c8 = c in
    let c10 = c in
    let c11 = c in
    let c13 = c in
    let c14 = c in
    let c16 = c in
    let c17 = c in
    let c19 = c in
    let c20 = c in
    let c22 = c in
    let c23 = c in
    let c25 = c in
    let c26 = c in
    let c31 = c in
    derives c31.args.word.now c31.args.s.now _ _ (sym c26.same_bytes.ensures ∙ c25.if-same_bytes.false)
    (sym c23.same_bytes-2.ensures ∙ c22.if-same_bytes-2.false) (sym c20.same_bytes-3.ensures ∙ c19.if-same_bytes-3.false)
    (sym c17.same_bytes-4.ensures ∙ c16.if-same_bytes-4.false) (sym c14.same_bytes-5.ensures ∙ c13.if-same_bytes-5.false) (sym c11.same_bytes-6.ensures ∙ c10.if-same_bytes-6.false)
    (sym c8.same_bytes-7.ensures ∙ c7.if-same_bytes-7.false) (sym c5.same_bytes-8.ensures ∙ c4.if-same_bytes-8.true) c2.derivation_text.ensures

pub returns : goal.returns
unfolding bytes
returns c =
    let c2 = c in
    let c4 = c in
    let c5 = c in
    let c7 = c in
    let c8 = c in
    let c10 = c in
    let c11 = c in
    let c13 = c in
    let c14 = c in
    let c16 = c in
    let c17 = c in
    let c19 = c in
    let c20 = c in
    let c22 = c in
    let c23 = c in
    let c25 = c in
    let c26 = c in
    let c31 = c in
    helps c31.args.word.now c31.args.s.now _ _ (sym c26.same_bytes.ensures ∙ c25.if-same_bytes.false)
    (sym c23.same_bytes-2.ensures ∙ c22.if-same_bytes-2.false) (sym c20.same_bytes-3.ensures ∙ c19.if-same_bytes-3.false)
    (sym c17.same_bytes-4.ensures ∙ c16.if-same_bytes-4.false) (sym c14.same_bytes-5.ensures ∙ c13.if-same_bytes-5.false) (sym c11.same_bytes-6.ensures ∙ c10.if-same_bytes-6.false)
    (sym c8.same_bytes-7.ensures ∙ c7.if-same_bytes-7.false) (sym c5.same_bytes-8.ensures ∙ c4.if-same_bytes-8.false) c2.tell_usage.ensures
