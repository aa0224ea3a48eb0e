-- `exports::kalzunbi_print` meets its contract: what the call that prints a form says is returned. Assumes nothing.
use mathlib.Core.Path.{◌∙◌}
use Rattle.integers.proofs.Machine.{back_is}
use native.Mathlib.Omega.{arith}
use Rattle.specification.specs.Returns.{print_returned}
use Rattle.exports.proofs.Returning.{handed_as}
use Rattle.exports.proofs.ReturnedTexts.{text_within}
use Rattle.exports.proofs.kalzunbi_print.Goals as goal

pub returned_of-requires : goal.returned_of-requires
returned_of-requires c = λ n g. omega (arith, text_within _ n g _ _ _ _ _ c.print_named.ensures, c.print_named.auto.out)

pub returns : goal.returns
unfolding print_returned
returns c = handed_as _ _ _ _ c.print_named.ensures (back_is (record { sfits = c.returned_of.type_inv }) ∙ c.returned_of.ensures)
