use Rattle.std.proofs.Common.{rules}
use Rattle.terms.specs.Abstraction.{term_of, part_of}
use mathlib.Core.Path.{refl}
use native.Mathlib.Omega.{arith}
use Rattle.leaves.proofs.only_factor.Goals as goal

pub returns : goal.returns
unfolding term_of part_of
returns c = record { is = refl; counted = record { few = omega arith; small = (c.requires, tt) } }
