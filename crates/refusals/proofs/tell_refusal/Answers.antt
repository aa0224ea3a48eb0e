-- `refusals::tell_refusal` meets its contract, piece by piece. Assumes nothing.
use Rattle.refusals.specs.Places.{place_text}
use Rattle.specification.specs.Commands.{refusal_text}
use Rattle.specification.specs.Words.{bytes}
use mathlib.Core.Path.{◌∙◌}
use Rattle.telling.proofs.Pieces.{tells-then}
use Rattle.refusals.proofs.tell_refusal.Goals as goal

pub shape_of-out : goal.shape_of-out
shape_of-out c =
    let c2 = c in
    let c7 = c in
    let c11 = c in
    let c16 = c in
    let c20 = c in
    let c25 = c in
    let c29 = c in
    let c34 = c in
    c2.put.auto.out ∙ c7.put_blanks-g.auto.out ∙ c11.put-f.auto.out ∙ c16.put-e.auto.out ∙ c20.put-d.auto.out ∙ c25.tell_reason-c.auto.out ∙ c29.put-b.auto.out ∙
    c34.tell_place-a.auto.out

pub returns : goal.returns
unfolding refusal_text place_text bytes
returns c =
    let c2 = c in
    let c7 = c in
    let c11 = c in
    let c16 = c in
    let c20 = c in
    let c25 = c in
    let c29 = c in
    let c34 = c in
    tells-then (tells-then (tells-then (tells-then (tells-then (tells-then (tells-then c34.tell_place-a.ensures c29.put-b.ensures) c25.tell_reason-c.ensures)
    c20.put-d.ensures) c16.put-e.ensures) c11.put-f.ensures) c7.put_blanks-g.ensures) c2.put.ensures
