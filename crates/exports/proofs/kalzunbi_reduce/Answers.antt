-- `exports::kalzunbi_reduce` meets its contract: what the reduction call says is returned. Assumes nothing.
use mathlib.Core.Path.{◌∙◌}
use Rattle.integers.proofs.Machine.{back_is}
use Rattle.specification.specs.Returns.{reduce_returned}
use Rattle.exports.proofs.Returning.{handed_as, reduce-fits}
use Rattle.exports.proofs.kalzunbi_reduce.Goals as goal

pub returned_of-requires : goal.returned_of-requires
returned_of-requires c = λ n g. reduce-fits _ _ n g _ _ _ c.reduce.ensures

pub returns : goal.returns
unfolding reduce_returned
returns c = handed_as _ _ _ _ c.reduce.ensures (back_is (record { sfits = c.returned_of.type_inv }) ∙ c.returned_of.ensures)
