use Rattle.std.proofs.Common.{rules}
use Rattle.terms.specs.Abstraction.{part_of}
use lib.ListN.{length}
use mathlib.Core.Path.{sym, ap}
use Rattle.terms.specs.declared.types.Part.{Part}
use Rattle.terms.proofs.shape.part_letters.Goals as goal

pub returns-in-Nothing : goal.returns-in-Nothing
unfolding part_of
returns-in-Nothing c = sym (ap (λ (p : Part). length (part_of p)) c.in-Nothing.is)

pub returns-in-Letter : goal.returns-in-Letter
unfolding part_of
returns-in-Letter c = sym (ap (λ (p : Part). length (part_of p)) c.in-Letter.is)

pub returns-in-Wedge : goal.returns-in-Wedge
unfolding part_of
returns-in-Wedge c = sym (ap (λ (p : Part). length (part_of p)) c.in-Wedge.is)
