-- `telling::put_signed` meets its contract. Assumes nothing.
use mathlib.Core.Path.{ap, sym, ◌∙◌}
use Rattle.specification.specs.Commands.{signed_numeral}
use Rattle.integers.proofs.Machine.{fits_back}
use Rattle.telling.proofs.Pieces.{tells-then, tells_as, signed-plain, signed-minus}
use Rattle.telling.proofs.put_signed.Goals as goal

pub returns-then-is_negative : goal.returns-then-is_negative
returns-then-is_negative c =
    let c2 = c in
    let c3 = c in
    let c7 = c in
    let c9 = c in
    let c10 = c in
    let c12 = c in
    tells_as _ (ap signed_numeral (fits_back c12.args.z c12.requires))
    (tells_as _ (signed-minus _ _ c3.size.ensures (sym c10.is_negative.ensures ∙ c9.if-is_negative.true)) (tells-then c7.put_byte-next.ensures c2.put_number.ensures))

pub returns : goal.returns
returns c =
    let c2 = c in
    let c3 = c in
    let c5 = c in
    let c6 = c in
    let c8 = c in
    tells_as _ (ap signed_numeral (fits_back c8.args.z c8.requires))
    (tells_as _ (signed-plain _ _ c3.size-2.ensures (sym c6.is_negative.ensures ∙ c5.if-is_negative.false)) c2.put_number-2.ensures)
