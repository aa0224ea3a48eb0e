-- `symbols::print_pair` meets its contract: five stores. Assumes nothing.
use mathlib.Core.Path.{refl}
use mathlib.Core.List.{[], ◌∷◌}
use native.Mathlib.Omega.{arith}
use native.Mathlib.Numerals.{towards_suc}
use lib.ListN.{length-set}
use Rattle.record_writing.proofs.Writes.{written_stores}
use Rattle.symbols.proofs.Pieces.{pair-stored}
use Rattle.symbols.proofs.print_pair.Goals as goal

pub bounds-out-at-2 : goal.bounds-out-at-2
bounds-out-at-2 c = simp length-set (omega arith)

pub bounds-out-at-3 : goal.bounds-out-at-3
bounds-out-at-3 c = simp length-set (omega arith)

pub bounds-out-at-4 : goal.bounds-out-at-4
bounds-out-at-4 c = simp length-set (omega arith)

pub bounds-out-at-5 : goal.bounds-out-at-5
bounds-out-at-5 c = simp length-set (omega arith)

pub returns : goal.returns
returns c =
    written_stores _ _ _ _ (40 ∷ c.letter.result ∷ c.args.mark ∷ c.letter-2.result ∷ 41 ∷ []) _
    (pair-stored _ _ _ _ _ c.letter.ensures c.letter-2.ensures) c.requires.2 refl (simp towards_suc)
