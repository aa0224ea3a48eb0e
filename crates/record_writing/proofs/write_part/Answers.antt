-- `record_writing::write_part` meets its contract: a store for each letter of the part. Assumes nothing.
use Rattle.std.proofs.Common.{rules}
use mathlib.Core.Path.{refl, ap}
use mathlib.Core.List.{[], ◌∷◌}
use native.Mathlib.Omega.{arith}
use native.Mathlib.Numerals.{towards_suc}
use lib.ListN.{length, length-set}
use Rattle.terms.proofs.Letters.{nothing_is, letter_is, wedge_is}
use Rattle.record_writing.proofs.Writes.{written_none, written_stores}
use Rattle.record_writing.proofs.write_part.Goals as goal

pub bounds-out-at : goal.bounds-out-at
bounds-out-at c = omega (arith, ap length (letter_is _ _ c.in-Letter.is))

pub bounds-out-at-in-Wedge : goal.bounds-out-at-in-Wedge
bounds-out-at-in-Wedge c = omega (arith, ap length (wedge_is _ _ _ c.in-Wedge.is))

pub bounds-out-at-in-Wedge-2 : goal.bounds-out-at-in-Wedge-2
bounds-out-at-in-Wedge-2 c = simp length-set (omega (arith, ap length (wedge_is _ _ _ c.in-Wedge.is)))

pub returns-in-Nothing : goal.returns-in-Nothing
returns-in-Nothing c = written_none _ _ _ (nothing_is _ c.in-Nothing.is)

pub returns-in-Letter : goal.returns-in-Letter
returns-in-Letter c = written_stores _ _ _ _ (_ ∷ []) _ (letter_is _ _ c.in-Letter.is) c.requires refl refl

pub returns-in-Wedge : goal.returns-in-Wedge
returns-in-Wedge c = written_stores _ _ _ _ (_ ∷ _ ∷ []) _ (wedge_is _ _ _ c.in-Wedge.is) c.requires refl (simp towards_suc)
