use Rattle.std.proofs.Common.{rules}
use mathlib.Core.Path.{refl}
use mathlib.Core.List.{[], ◌∷◌}
use Rattle.specification.specs.Reduction.{wedge_parts}
use Rattle.pairing.specs.Parts.{is_some}
use Rattle.pairing.proofs.Few.{judging, some_nothing, some_letter, some_wedge, letters_some}
use Rattle.pairing.proofs.staying.wedge_letter_stays.Goals as goal

pub returns-in-Nothing : goal.returns-in-Nothing
unfolding wedge_parts is_some judging
returns-in-Nothing c = some_nothing (wedge_parts (c.args.a ∷ [])) _ _ c.in-Nothing.is refl

pub returns-in-Letter : goal.returns-in-Letter
unfolding wedge_parts
returns-in-Letter c = some_letter (wedge_parts (c.args.a ∷ [])) _ _ _ c.in-Letter.is (letters_some _ _)

pub returns-in-Wedge : goal.returns-in-Wedge
unfolding wedge_parts is_some judging
returns-in-Wedge c = some_wedge (wedge_parts (c.args.a ∷ [])) _ _ _ _ c.in-Wedge.is refl
