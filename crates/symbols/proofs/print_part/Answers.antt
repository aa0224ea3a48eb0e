-- `symbols::print_part` meets its contract: nothing, the byte of a letter, or a pair. Assumes nothing.
use mathlib.Core.Path.{refl, ap}
use mathlib.Core.List.{[], ◌∷◌}
use native.Mathlib.Omega.{arith}
use lib.ListN.{length}
use Rattle.record_writing.proofs.Writes.{written_none, written_stores}
use Rattle.symbols.proofs.Pieces.{nothing-text, letter-text, wedge-text, letter-named, wedge-named, letter-stored}
use Rattle.symbols.proofs.Progress.{written_as_lem}
use Rattle.symbols.proofs.print_part.Goals as goal

pub letter-requires : goal.letter-requires
letter-requires c = let s = c in letter-named s.args.names.now _ _ c.in-Letter.is s.requires.0

pub bounds-out-at : goal.bounds-out-at
bounds-out-at c =
    let s = c in
    omega (arith, ap length (letter-text s.args.names.now _ _ c.in-Letter.is), s.requires.1)

pub print_pair-requires : goal.print_pair-requires
print_pair-requires c =
    let s = c in
    let e = c.in-Wedge.is in
    let w = wedge-named s.args.names.now _ _ _ e s.requires.0 in
    (w.0, w.1, omega (arith, ap length (wedge-text s.args.names.now _ _ _ e), s.requires.1))

pub returns-in-Nothing : goal.returns-in-Nothing
returns-in-Nothing c = written_none _ _ _ (nothing-text _ _ c.in-Nothing.is)

pub returns-in-Letter : goal.returns-in-Letter
returns-in-Letter c =
    let s = c in
    written_stores _ _ _ _ (_ ∷ []) _ (letter-stored _ _ _ c.letter.ensures (letter-text s.args.names.now _ _ c.in-Letter.is))
    s.requires.1 refl refl

pub returns-in-Wedge : goal.returns-in-Wedge
returns-in-Wedge c = written_as_lem _ _ _ _ _ _ (wedge-text _ _ _ _ c.in-Wedge.is) c.print_pair.ensures
