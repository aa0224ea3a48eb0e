use Rattle.std.proofs.Common.{rules}
use mathlib.Core.Path.{refl}
use mathlib.Core.List.{[], ◌∷◌}
use Rattle.specification.specs.Reduction.{dot_parts}
use Rattle.pairing.specs.Parts.{is_some}
use Rattle.pairing.proofs.Few.{judging, some_nothing, some_letter, some_wedge, triple_some}
use Rattle.pairing.proofs.staying.dot_letter_stays.Goals as goal

pub returns-in-Nothing : goal.returns-in-Nothing
unfolding dot_parts is_some judging
returns-in-Nothing c = some_nothing (dot_parts (c.args.a ∷ [])) _ _ c.in-Nothing.is refl

pub returns-in-Letter : goal.returns-in-Letter
unfolding dot_parts is_some judging
returns-in-Letter c = some_letter (dot_parts (c.args.a ∷ [])) _ _ _ c.in-Letter.is refl

pub returns-in-Wedge : goal.returns-in-Wedge
unfolding dot_parts
returns-in-Wedge c = some_wedge (dot_parts (c.args.a ∷ [])) _ _ _ _ c.in-Wedge.is (triple_some _ _ _ _ c.vanishing.ensures)
