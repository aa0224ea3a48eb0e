use mathlib.Core.Path.{ap, sym, subst, ◌∙◌}
use Prim.Native.Nat.{ℕ, ◌+◌, ◌%◌, ◌^◌, ◌<◌}
use native.Mathlib.Omega.{arith}
use lib.IntN.{ℤ, nat_abs}
use Rattle.integers.proofs.Machine.{back_is}
use Rattle.marking.specs.Marks.{size_mark}
use Rattle.marking.proofs.marking.size_mark.Goals as goal

pub size-requires : goal.size-requires
size-requires c = subst (λ (z : ℤ). nat_abs z < 2 ^ 63) (sym (back_is c.ranges.c)) (omega (arith, c.requires))

pub returns : goal.returns
unfolding size_mark
returns c = ap (λ (n : ℕ). n % 253 + 1) (c.size.ensures ∙ ap nat_abs (back_is c.ranges.c))
