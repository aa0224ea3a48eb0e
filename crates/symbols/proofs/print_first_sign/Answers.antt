-- `symbols::print_first_sign` meets its contract: by the sign of the number. Assumes nothing.
use mathlib.Core.Path.{◌≡◌, refl, ap, ◌∙◌}
use mathlib.Core.List.{[], ◌∷◌}
use Rattle.integers.specs.Arithmetic.{is_negative}
use Rattle.integers.proofs.Machine.{back_is}
use Rattle.record_writing.proofs.Writes.{written_none, written_stores}
use Rattle.symbols.proofs.Pieces.{stored-room, first_minus, first_plus}
use Rattle.symbols.proofs.print_first_sign.Goals.{After-is_negative}
use Rattle.symbols.proofs.print_first_sign.Goals as goal

-- the test is whether it is below 0
tested : (c : After-is_negative) → c.is_negative.result ≡ is_negative c.args.k
tested c = c.is_negative.ensures ∙ ap is_negative (back_is c.ranges.k)

pub returns-then-is_negative : goal.returns-then-is_negative
returns-then-is_negative c = let e = first_minus _ _ (tested (goal.at.returns-then-is_negative c).After-is_negative) c.if-is_negative.true in written_stores _ _ _ _ (_ ∷ []) _ e (stored-room _ _ _ _ e c.requires) refl refl

pub returns : goal.returns
returns c = written_none _ _ _ (first_plus _ _ (tested (goal.at.returns c).After-is_negative) c.if-is_negative.false)
