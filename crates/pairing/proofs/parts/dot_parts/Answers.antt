use Rattle.std.proofs.Common.{rules}
use Rattle.specification.specs.Reduction.{dot_parts}
use Prim.Native.Nat.{ℕ}
use Rattle.terms.specs.Abstraction.{part_of}
use mathlib.Core.List.{List}
use Rattle.pairing.proofs.Few.{at_nothing, at-letter, at-wedge, judging}
use Rattle.pairing.proofs.parts.dot_parts.Goals as goal

pub returns-in-Nothing : goal.returns-in-Nothing
unfolding dot_parts judging
returns-in-Nothing c = at_nothing (λ (p : List ℕ). dot_parts p (part_of c.args.q)) _ _ c.in-Nothing.is c.none.ensures

pub returns-in-Letter : goal.returns-in-Letter
returns-in-Letter c = at-letter (λ (p : List ℕ). dot_parts p (part_of c.args.q)) _ _ _ c.in-Letter.is
    c.dot_letter.ensures

pub returns-in-Wedge : goal.returns-in-Wedge
returns-in-Wedge c = at-wedge (λ (p : List ℕ). dot_parts p (part_of c.args.q)) _ _ _ _ c.in-Wedge.is
    c.dot_wedge.ensures
