-- `evaluation::assignments::signed` meets its contract. Assumes nothing.
use mathlib.Core.Path.{◌∙◌}
use mir.Syntax.{w8}
use mir.ValLaws.{to_z-of_z}
use Rattle.integers.proofs.Machine.{back_is}
use Rattle.evaluation.proofs.Assigned.{byte_signed}
use Rattle.evaluation.proofs.assignments.signed.Goals as goal

pub returns : goal.returns
returns c = back_is (record { sfits = c.from.type_inv }) ∙ c.from.ensures ∙ to_z-of_z w8 _ (record { sfits = c.cast_signed.type_inv })
    ∙ c.cast_signed.ensures ∙ byte_signed c.args.b
