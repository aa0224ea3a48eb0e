-- `exports::kalzunbi_read_text` meets its contract: what the call that reads a text says is returned. Assumes nothing.
use mathlib.Core.Path.{◌∙◌}
use Rattle.integers.proofs.Machine.{back_is}
use native.Mathlib.Omega.{arith}
use Rattle.specification.specs.Returns.{read_text_returned}
use Rattle.exports.proofs.ReturnedTexts.{handed_both-as, record_within}
use Rattle.exports.proofs.kalzunbi_read_text.Goals as goal

pub returned_of-requires : goal.returned_of-requires
returned_of-requires c = λ n g. omega (arith, record_within _ n g _ _ _ _ _ _ _ c.read_formula.ensures, c.read_formula.auto.out)

pub returns : goal.returns
unfolding read_text_returned
returns c = handed_both-as _ _ _ _ _ c.read_formula.ensures (back_is (record { sfits = c.returned_of.type_inv }) ∙ c.returned_of.ensures)
