-- `polynomials::expansion::cross_piece` meets its contract. Assumes nothing.
use mathlib.Core.Path.{◌∙◌}
use Rattle.integers.proofs.Machine.{back_is}
use Rattle.polynomials.proofs.Pieces.{cross_is}
use Rattle.polynomials.proofs.expansion.cross_piece.Goals as goal

pub returns : goal.returns
returns c = cross_is _ _ _ _ _ _ _ _ c.digit-a.ensures c.digit-b.ensures (back_is (record { sfits = c.piece_sign-sign.type_inv }) ∙ c.piece_sign-sign.ensures)
