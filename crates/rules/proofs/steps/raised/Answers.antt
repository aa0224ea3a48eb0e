-- `rules::steps::raised` meets its contract. Assumes nothing.
use Rattle.std.proofs.Common.{rules}
use mathlib.Core.Path.{◌≡◌, ap}
use native.Mathlib.Omega.{arith}
use lib.IntN.{nat_abs}
use Rattle.integers.proofs.Machine.{back, back_is}
use Rattle.rules.proofs.steps.raised.Goals.{Start}
use Rattle.rules.proofs.steps.raised.Goals as goal

own : (c : Start) → nat_abs (back c.args.c) ≡ nat_abs c.args.c
own c = ap nat_abs (back_is c.ranges.c)

pub size-requires : goal.size-requires
size-requires c = omega (arith, c.requires.1, own (goal.at.size-requires c).Start)

pub overflow_mul-result : goal.overflow_mul-result
overflow_mul-result c = omega (arith, c.requires.1, c.size.ensures, own (goal.at.overflow_mul-result c).Start)

pub overflow_add-result : goal.overflow_add-result
overflow_add-result c = omega (arith, c.requires.0, c.requires.1, c.size.ensures, own (goal.at.overflow_add-result c).Start)

pub returns : goal.returns
returns c = omega (arith, c.size.ensures, own (goal.at.returns c).Start)
