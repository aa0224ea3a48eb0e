-- `refusals::tell_place` meets its contract, piece by piece. Assumes nothing.
use Rattle.refusals.specs.Places.{place_text}
use Rattle.specification.specs.Words.{bytes}
use Rattle.telling.proofs.Pieces.{tells-then}
use Rattle.refusals.proofs.tell_place.Goals as goal

pub returns : goal.returns
unfolding place_text bytes
returns c =
    let c2 = c in
    let c6 = c in
    let c11 = c in
    let c15 = c in
    let c20 = c in
    let c24 = c in
    tells-then (tells-then (tells-then (tells-then (tells-then c24.put-a.ensures c20.put_number-b.ensures) c15.put-c.ensures)
    c11.put_number-d.ensures) c6.put-e.ensures) c2.put_number.ensures
