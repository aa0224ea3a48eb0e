-- `picks::choosing::add_factors`. The loop: the letters of the factors from factor i on are in the pool. Assumes nothing.
use Rattle.picks.specs.Choosing.{Adds}
use Rattle.specification.specs.Lists.{joined}
use Rattle.terms.specs.Numbers.{letters_of}
use mathlib.Core.List.{map}
use Prim.Native.Nat.{◌≤◌}
use lib.ListN.{take, drop}
use Rattle.picks.proofs.choosing.add_factors.Given as goal

abbrev pub invariant-loop-i : goal.invariant-loop-i
invariant-loop-i l = (l.i ≤ l.count) × Adds (joined (map letters_of (drop l.i (take l.count l.f)))) l.initial.pool l.n l.pool l.c
