use Rattle.std.proofs.Common.{rules}
use mathlib.Core.Path.{refl}
use native.Mathlib.Omega.{arith}
use Rattle.terms.specs.Abstraction.{terms_of}
use Rattle.forms.proofs.no_terms.Goals as goal

pub returns : goal.returns
unfolding terms_of
returns c = (refl, record { few = omega arith; counted = tt }, refl, refl, refl)
