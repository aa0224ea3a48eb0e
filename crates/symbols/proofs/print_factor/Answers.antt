-- `symbols::print_factor` meets its contract: a letter, a pair or a triple by the factor's case. Assumes nothing.
use mathlib.Core.Path.{refl, ap}
use mathlib.Core.List.{[], ◌∷◌}
use native.Mathlib.Omega.{arith}
use lib.ListN.{length}
use Rattle.record_writing.proofs.Writes.{written_stores}
use Rattle.symbols.proofs.Pieces.{scalar-text, dot-text, triple_text_lem, letter-stored}
use Rattle.symbols.proofs.Progress.{written_as_lem}
use Rattle.symbols.proofs.print_factor.Goals as goal

pub letter-requires : goal.letter-requires
letter-requires c =
    let s = c in
    (scalar-text s.args.names.now _ _ c.letters_of-f.ensures s.requires.1 _ c.in-Scalar.is).named.0

pub bounds-out-at : goal.bounds-out-at
bounds-out-at c =
    let s = c in
    let t = scalar-text s.args.names.now _ _ c.letters_of-f.ensures s.requires.1 _ c.in-Scalar.is in
    omega (arith, ap length t.is, s.requires.2)

pub print_pair-requires : goal.print_pair-requires
print_pair-requires c =
    let s = c in
    let t = dot-text s.args.names.now _ _ c.letters_of-f.ensures s.requires.1 _ _ c.in-Dot.is in
    (t.named.0, t.named.1.0, omega (arith, ap length t.is, s.requires.2))

pub print_triple-requires : goal.print_triple-requires
print_triple-requires c =
    let s = c in
    let f = c.letters_of-f.ensures in
    let t = triple_text_lem s.args.names.now _ _ f s.requires.1 _ _ _ c.in-Triple.is in
    (t.named.0, t.named.1.0, t.named.1.1.0, omega (arith, ap length t.is, s.requires.2))

pub returns-in-Scalar : goal.returns-in-Scalar
returns-in-Scalar c =
    let s = c in
    let t = scalar-text s.args.names.now _ _ c.letters_of-f.ensures s.requires.1 _ c.in-Scalar.is in
    written_stores _ _ _ _ (_ ∷ []) _ (letter-stored _ _ _ c.letter.ensures t.is) s.requires.2 refl refl

pub returns-in-Dot : goal.returns-in-Dot
returns-in-Dot c =
    let w = c in
    let s = c in
    written_as_lem _ _ _ _ _ _ (dot-text s.args.names.now _ _ w.letters_of-f.ensures s.requires.1 _ _ w.in-Dot.is).is
    c.print_pair.ensures

pub returns-in-Triple : goal.returns-in-Triple
returns-in-Triple c =
    let w = c in
    let s = c in
    written_as_lem _ _ _ _ _ _ (triple_text_lem s.args.names.now _ _ w.letters_of-f.ensures s.requires.1 _ _ _ w.in-Triple.is).is
    c.print_triple.ensures
