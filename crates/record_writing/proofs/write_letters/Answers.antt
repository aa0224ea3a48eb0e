-- `record_writing::write_letters` meets its contract: one, two or three stores, which are the letters of the number. Assumes nothing.
use Rattle.std.proofs.Common.{rules}
use mathlib.Core.Path.{refl, ap}
use mathlib.Core.List.{[], ◌∷◌}
use native.Mathlib.Omega.{arith}
use native.Mathlib.Numerals.{towards_suc}
use lib.ListN.{length, length-set}
use Rattle.terms.proofs.Letters.{scalar_is, dot_is, triple_is}
use Rattle.record_writing.proofs.Writes.{written_stores}
use Rattle.record_writing.proofs.write_letters.Goals as goal

pub bounds-out-at : goal.bounds-out-at
bounds-out-at c = omega (arith, c.requires.1, ap length (scalar_is _ _ c.letters_of-f.ensures _ c.in-Scalar.is))

pub bounds-out-at-in-Dot : goal.bounds-out-at-in-Dot
bounds-out-at-in-Dot c = omega (arith, c.requires.1, ap length (dot_is _ _ c.letters_of-f.ensures _ _ c.in-Dot.is))

pub bounds-out-at-in-Dot-2 : goal.bounds-out-at-in-Dot-2
bounds-out-at-in-Dot-2 c =
    simp length-set
    (omega (
      arith,
      c.requires.1,
      ap length
          (dot_is _ _ c.letters_of-f.ensures _ _ c.in-Dot.is),
    ))

pub bounds-out-at-in-Triple : goal.bounds-out-at-in-Triple
bounds-out-at-in-Triple c = omega (arith, c.requires.1, ap length (triple_is _ _ c.letters_of-f.ensures _ _ _ c.in-Triple.is))

pub bounds-out-at-in-Triple-2 : goal.bounds-out-at-in-Triple-2
bounds-out-at-in-Triple-2 c =
    simp length-set
    (omega (
      arith,
      c.requires.1,
      ap length
          (triple_is _ _ c.letters_of-f.ensures _ _ _ c.in-Triple.is),
    ))

pub bounds-out-at-in-Triple-3 : goal.bounds-out-at-in-Triple-3
bounds-out-at-in-Triple-3 c =
    simp length-set
    (omega (
      arith,
      c.requires.1,
      ap length
          (triple_is _ _ c.letters_of-f.ensures _ _ _ c.in-Triple.is),
    ))

pub returns-in-Scalar : goal.returns-in-Scalar
returns-in-Scalar c = written_stores _ _ _ _ (_ ∷ []) _ (scalar_is _ _ c.letters_of-f.ensures _ c.in-Scalar.is) c.requires.1 refl refl

pub returns-in-Dot : goal.returns-in-Dot
returns-in-Dot c =
    written_stores _ _ _ _ (_ ∷ _ ∷ []) _ (dot_is _ _ c.letters_of-f.ensures _ _ c.in-Dot.is)
    c.requires.1 refl (simp towards_suc)

pub returns-in-Triple : goal.returns-in-Triple
returns-in-Triple c =
    written_stores _ _ _ _ (_ ∷ _ ∷ _ ∷ []) _ (triple_is _ _ c.letters_of-f.ensures _ _ _ c.in-Triple.is)
    c.requires.1 refl (simp towards_suc)
