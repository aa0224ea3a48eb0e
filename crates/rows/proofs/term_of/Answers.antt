-- `rows::term_of` meets its contract. Assumes nothing.
use Rattle.std.proofs.Common.{rules}
use Rattle.integers.proofs.Machine.{back_is}
use Rattle.rows.specs.Rows.{head_of}
use Rattle.rows.proofs.RowTerms.{term_of-row, behind-head}
use Rattle.rows.proofs.term_of.Goals as goal

pub part_of-p-requires : goal.part_of-p-requires
unfolding head_of
part_of-p-requires c = c.requires.part

pub returns : goal.returns
returns c = term_of-row c.args.r _ _ _ _ c.requires (behind-head c.args.r c.requires.places)
    (back_is c.ranges.c) c.part_of-p.ensures
