use Rattle.std.proofs.Common.{rules}
use Rattle.specification.specs.Reduction.{wedge_parts}
use mathlib.Core.List.{[], ◌∷◌}
use Rattle.pairing.proofs.Few.{two_factors, at_nothing, at-letter, at-wedge, judging}
use Rattle.pairing.proofs.parts.wedge_letter.Goals as goal

pub returns-in-Nothing : goal.returns-in-Nothing
unfolding wedge_parts judging
returns-in-Nothing c = at_nothing (wedge_parts (c.args.a ∷ [])) _ _ c.in-Nothing.is c.none.ensures

pub returns-in-Letter : goal.returns-in-Letter
unfolding wedge_parts judging
returns-in-Letter c = at-letter (wedge_parts (c.args.a ∷ [])) _ _ _ c.in-Letter.is c.wedge_alone.ensures

pub returns-in-Wedge : goal.returns-in-Wedge
unfolding wedge_parts judging
returns-in-Wedge c =
    at-wedge (wedge_parts (c.args.a ∷ [])) _ _ _ _ c.in-Wedge.is
    (two_factors _ _ _ _ _ _ _ c.dot_number.ensures c.dot_number-in-Wedge.ensures c.two_letters.ensures)
