-- `command::is_command` meets its contract. Assumes nothing.
use Rattle.std.proofs.Common.{rules}
use mathlib.Core.Path.{sym, ◌∙◌}
use Rattle.specification.specs.Words.{bytes}
use Rattle.command.proofs.Answers.{known_reduce, known_decide, known_value, known_shorten, known_check, known_pack, known_unpack, known_derivation}
use Rattle.command.proofs.is_command.Goals as goal

pub returns-then-same_bytes : goal.returns-then-same_bytes
unfolding bytes
returns-then-same_bytes c = known_reduce _ (sym c.same_bytes.ensures ∙ c.if-same_bytes.true)

pub returns-then-same_bytes-2 : goal.returns-then-same_bytes-2
unfolding bytes
returns-then-same_bytes-2 c =
    known_decide _ (sym c.same_bytes.ensures ∙ c.if-same_bytes.false) (sym c.same_bytes-2.ensures ∙ c.if-same_bytes-2.true)

pub returns-then-same_bytes-3 : goal.returns-then-same_bytes-3
unfolding bytes
returns-then-same_bytes-3 c =
    let c1 = c in
    let c3 = c in
    let c4 = c in
    let c6 = c in
    let c7 = c in
    known_value _ (sym c7.same_bytes.ensures ∙ c6.if-same_bytes.false) (sym c4.same_bytes-2.ensures ∙ c3.if-same_bytes-2.false)
    (sym c1.same_bytes-3.ensures ∙ c.if-same_bytes-3.true)

pub returns-then-same_bytes-4 : goal.returns-then-same_bytes-4
unfolding bytes
returns-then-same_bytes-4 c =
    let c1 = c in
    let c3 = c in
    let c4 = c in
    let c6 = c in
    let c7 = c in
    let c9 = c in
    let c10 = c in
    known_shorten _ (sym c10.same_bytes.ensures ∙ c9.if-same_bytes.false) (sym c7.same_bytes-2.ensures ∙ c6.if-same_bytes-2.false)
    (sym c4.same_bytes-3.ensures ∙ c3.if-same_bytes-3.false) (sym c1.same_bytes-4.ensures ∙ c.if-same_bytes-4.true)

pub returns-then-same_bytes-5 : goal.returns-then-same_bytes-5
unfolding bytes
returns-then-same_bytes-5 c =
    let c1 = c in
    let c3 = c in
    let c4 = c in
    let c6 = c in
    let c7 = c in
    let c9 = c in
    let c10 = c in
    let c12 = c in
    let c13 = c in
    known_check _ (sym c13.same_bytes.ensures ∙ c12.if-same_bytes.false) (sym c10.same_bytes-2.ensures ∙ c9.if-same_bytes-2.false)
    (sym c7.same_bytes-3.ensures ∙ c6.if-same_bytes-3.false) (sym c4.same_bytes-4.ensures ∙ c3.if-same_bytes-4.false) (sym c1.same_bytes-5.ensures ∙ c.if-same_bytes-5.true)

pub returns-then-same_bytes-6 : goal.returns-then-same_bytes-6
unfolding bytes
returns-then-same_bytes-6 c =
    let c1 = c in
    let c3 = c in
    let c4 = c in
    let c6 = c in
    let c7 = c in
    let c9 = c in
    let c10 = c in
    let c12 = c in
    let c13 = c in
    let c15 = c in
    let c16 = c in
    known_pack _ (sym c16.same_bytes.ensures ∙ c15.if-same_bytes.false) (sym c13.same_bytes-2.ensures ∙ c12.if-same_bytes-2.false)
    (sym c10.same_bytes-3.ensures ∙ c9.if-same_bytes-3.false) (sym c7.same_bytes-4.ensures ∙ c6.if-same_bytes-4.false) (sym c4.same_bytes-5.ensures ∙ c3.if-same_bytes-5.false)
    (sym c1.same_bytes-6.ensures ∙ c.if-same_bytes-6.true)

pub returns-then-same_bytes-7 : goal.returns-then-same_bytes-7
unfolding bytes
returns-then-same_bytes-7 c =
    let c1 = c in
    let c3 = c in
    let c4 = c in
    let c6 = c in
    let c7 = c in
    let c9 = c in
    let c10 = c in
    let c12 = c in
    let c13 = c in
    let c15 = c in
    let c16 = c in
    let c18 = c in
    let c19 = c in
    known_unpack _ (sym c19.same_bytes.ensures ∙ c18.if-same_bytes.false) (sym c16.same_bytes-2.ensures ∙ c15.if-same_bytes-2.false)
    (sym c13.same_bytes-3.ensures ∙ c12.if-same_bytes-3.false) (sym c10.same_bytes-4.ensures ∙ c9.if-same_bytes-4.false) (sym c7.same_bytes-5.ensures ∙ c6.if-same_bytes-5.false)
    (sym c4.same_bytes-6.ensures ∙ c3.if-same_bytes-6.false) (sym c1.same_bytes-7.ensures ∙ c.if-same_bytes-7.true)

pub returns : goal.returns
unfolding bytes
returns c =
    let c2 = c in
    let c3 = c in
    let c5 = c in
    let c6 = c in
    let c8 = c in
    let c9 = c in
    let c11 = c in
    let c12 = c in
    let c14 = c in
    let c15 = c in
    let c17 = c in
    let c18 = c in
    let c20 = c in
    let c21 = c in
    c.same_bytes-8.ensures ∙ known_derivation _ (sym c21.same_bytes.ensures ∙ c20.if-same_bytes.false) (sym c18.same_bytes-2.ensures ∙ c17.if-same_bytes-2.false)
    (sym c15.same_bytes-3.ensures ∙ c14.if-same_bytes-3.false) (sym c12.same_bytes-4.ensures ∙ c11.if-same_bytes-4.false) (sym c9.same_bytes-5.ensures ∙ c8.if-same_bytes-5.false)
    (sym c6.same_bytes-6.ensures ∙ c5.if-same_bytes-6.false) (sym c3.same_bytes-7.ensures ∙ c2.if-same_bytes-7.false)
