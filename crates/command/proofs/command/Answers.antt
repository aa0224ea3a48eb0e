-- `command::command` meets its contract. Assumes nothing.
use Rattle.std.proofs.Common.{rules}
use native.Mathlib.Omega.{arith}
use mathlib.Core.Path.{sym, ◌∙◌}
use lib.Seq.{length-take-le}
use Rattle.command.proofs.Copies.{part_fits_lem, too_long, no_room, written}
use Rattle.command.proofs.command.Goals as goal

pub returns-then-n-gt65536 : goal.returns-then-n-gt65536
returns-then-n-gt65536 c =
    let c2 = c in
    let c4 = c in
    let c8 = c in
    too_long c8.args.word.now c8.args.s.now _ _ _ (c4.large_buffer-told.ensures ∙ sym c2.answer-n.auto.out) c2.answer-n.ensures
    (omega (arith, c.if-n-gt65536.true, c4.large_buffer-told.ensures, c2.answer-n.auto.out))

pub returns-then-n-out : goal.returns-then-n-out
returns-then-n-out c =
    let c1 = c in
    let c3 = c in
    let c5 = c in
    let c9 = c in
    no_room c9.args.word.now c9.args.s.now _ _ _ (c5.large_buffer-told.ensures ∙ sym c3.answer-n.auto.out) c3.answer-n.ensures
    (omega (arith, c1.if-n-gt65536.false, c5.large_buffer-told.ensures, c3.answer-n.auto.out)) c.if-n-out.true

pub slice_bounds-copy_front-end : goal.slice_bounds-copy_front-end
slice_bounds-copy_front-end c =
    let c3 = c in
    let c5 = c in
    let c7 = c in
    sym (length-take-le _ _ (omega (arith, c3.if-n-gt65536.false, c7.large_buffer-told.ensures, c5.answer-n.auto.out)))

pub copy_front-requires : goal.copy_front-requires
copy_front-requires c =
    let c2 = c in
    let c3 = c in
    let c5 = c in
    let c7 = c in
    let c11 = c in
    part_fits_lem _ _ c11.args.out.now (c7.large_buffer-told.ensures ∙ sym c5.answer-n.auto.out) c3.if-n-gt65536.false c2.if-n-out.false

pub returns : goal.returns
returns c =
    let c2 = c in
    let c5 = c in
    let c6 = c in
    let c8 = c in
    let c10 = c in
    let c14 = c in
    written c14.args.word.now c14.args.s.now _ _ _ (c10.large_buffer-told.ensures ∙ sym c8.answer-n.auto.out) c8.answer-n.ensures
    (omega (arith, c6.if-n-gt65536.false, c10.large_buffer-told.ensures, c8.answer-n.auto.out)) c5.if-n-out.false _ c2.copy_front.ensures
