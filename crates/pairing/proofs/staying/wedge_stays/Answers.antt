use Rattle.std.proofs.Common.{rules}
use mathlib.Core.Path.{refl}
use mathlib.Core.List.{List}
use Prim.Native.Nat.{ℕ}
use Rattle.specification.specs.Reduction.{wedge_parts}
use Rattle.terms.specs.Abstraction.{part_of}
use Rattle.pairing.specs.Parts.{is_some}
use Rattle.pairing.proofs.Few.{judging, some_nothing, some_letter, some_wedge}
use Rattle.pairing.proofs.staying.wedge_stays.Goals as goal

pub returns-in-Nothing : goal.returns-in-Nothing
unfolding wedge_parts is_some judging
returns-in-Nothing c = some_nothing (λ (p : List ℕ). wedge_parts p (part_of c.args.q)) _ _ c.in-Nothing.is refl

pub returns-in-Letter : goal.returns-in-Letter
returns-in-Letter c = some_letter (λ (p : List ℕ). wedge_parts p (part_of c.args.q)) _ _ _ c.in-Letter.is c.wedge_letter_stays.ensures

pub returns-in-Wedge : goal.returns-in-Wedge
returns-in-Wedge c = some_wedge (λ (p : List ℕ). wedge_parts p (part_of c.args.q)) _ _ _ _ c.in-Wedge.is c.wedge_wedge_stays.ensures
