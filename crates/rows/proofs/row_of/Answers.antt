-- `rows::row_of` meets its contract. Assumes nothing.
use Rattle.std.proofs.Common.{rules}
use mathlib.Core.Path.{◌≡◌, refl}
use lib.ListN.{length}
use Rattle.rows.proofs.RowTerms.{row_of-term, seven}
use Rattle.rows.proofs.row_of.Goals.{Start}
use Rattle.rows.proofs.row_of.Goals as goal

places : (c : Start) → length c.args.t.factors ≡ 7
places c = search rules

pub returns : goal.returns
returns c = let w = c in row_of-term w.args.t _ _ _ w.requires (places (goal.at.returns c).Start)
    c.part_number.ensures refl (seven _ (places (goal.at.returns c).Start))
