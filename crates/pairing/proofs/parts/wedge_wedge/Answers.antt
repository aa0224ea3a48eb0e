use Rattle.std.proofs.Common.{rules}
use Rattle.specification.specs.Reduction.{wedge_parts}
use mathlib.Core.List.{[], ◌∷◌}
use Rattle.pairing.proofs.Few.{two_factors, at_nothing, at-letter, at-wedge, judging}
use Rattle.pairing.proofs.parts.wedge_wedge.Goals as goal

pub returns-in-Nothing : goal.returns-in-Nothing
unfolding wedge_parts judging
returns-in-Nothing c = at_nothing (wedge_parts (c.args.a ∷ c.args.b ∷ [])) _ _ c.in-Nothing.is
    c.none.ensures

pub returns-in-Letter : goal.returns-in-Letter
unfolding wedge_parts judging
returns-in-Letter c =
    let w = c in
    at-letter (wedge_parts (w.args.a ∷ w.args.b ∷ [])) _ _ _ c.in-Letter.is
    (two_factors _ _ _ _ _ _ _ c.dot_number.ensures c.dot_number-in-Letter.ensures c.two_letters.ensures)

pub returns-in-Wedge : goal.returns-in-Wedge
returns-in-Wedge c =
    let w = c in
    at-wedge (wedge_parts (w.args.a ∷ w.args.b ∷ [])) _ _ _ _ c.in-Wedge.is c.wedge_wedges.ensures
