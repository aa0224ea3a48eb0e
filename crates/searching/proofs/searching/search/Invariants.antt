-- `searching::searching::search` meets its contract. The loop: no place passed so far, from the first on, is a step to fewer terms. Assumes nothing.
use mathlib.Core.Path.{◌≡◌}
use Prim.Native.Nat.{◌-◌}
use lib.ListN.{length}
use Rattle.rows.specs.Rows.{form_by}
use Rattle.searching.proofs.Searches.{RowPassed}
use Rattle.searching.proofs.searching.search.Given as goal

abbrev pub invariant-loop-at : goal.invariant-loop-at
invariant-loop-at l = RowPassed l.table (form_by l.kind l.n l.rows l.coefs) l.first l.at × (length l.to ≡ length l.initial.to)
    × (length l.tos ≡ length l.initial.tos)

abbrev pub decreases-loop-at : goal.decreases-loop-at
decreases-loop-at l = l.end - l.at
