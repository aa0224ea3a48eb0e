use Rattle.std.proofs.Common.{rules}
use Rattle.specification.specs.Reduction.{dot_parts}
use mathlib.Core.List.{[], ◌∷◌}
use Rattle.pairing.proofs.Few.{at_nothing, at-letter, at-wedge, judging}
use Rattle.pairing.proofs.parts.dot_letter.Goals as goal

pub returns-in-Nothing : goal.returns-in-Nothing
unfolding dot_parts judging
returns-in-Nothing c = at_nothing (dot_parts (c.args.a ∷ [])) _ _ c.in-Nothing.is c.none.ensures

pub returns-in-Letter : goal.returns-in-Letter
unfolding dot_parts judging
returns-in-Letter c = at-letter (dot_parts (c.args.a ∷ [])) _ _ _ c.in-Letter.is c.dot_alone.ensures

pub returns-in-Wedge : goal.returns-in-Wedge
unfolding dot_parts judging
returns-in-Wedge c = at-wedge (dot_parts (c.args.a ∷ [])) _ _ _ _ c.in-Wedge.is c.triple_alone.ensures
