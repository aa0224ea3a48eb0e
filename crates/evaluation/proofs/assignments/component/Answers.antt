-- `evaluation::assignments::component` meets its contract. Assumes nothing.
use mathlib.Core.Path.{◌∙◌, ap}
use Rattle.specification.specs.Evaluation.{signed_byte}
use Rattle.integers.proofs.Machine.{back_is}
use Rattle.evaluation.proofs.assignments.component.Goals as goal

pub returns : goal.returns
returns c = back_is (record { sfits = c.signed.type_inv }) ∙ c.signed.ensures ∙ ap signed_byte c.byte.ensures
