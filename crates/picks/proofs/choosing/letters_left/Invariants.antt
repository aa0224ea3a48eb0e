-- `picks::choosing::letters_left`. The loop: the letters counted and those that the mask leaves from factor i on are all that it leaves, and no scalar letter
-- was left so far. Assumes nothing.
use Prim.Native.Nat.{◌≤◌, ◌*◌}
use mathlib.Core.List.{map}
use lib.ListN.{take, drop}
use Rattle.terms.specs.Numbers.{letters_of}
use Rattle.picks.proofs.LettersLeft.{Counting}
use Rattle.picks.proofs.choosing.letters_left.Given as goal

abbrev pub invariant-loop-i : goal.invariant-loop-i
invariant-loop-i l = (l.i ≤ l.n) × (l.c ≤ 3 * l.i) × Counting (map letters_of (take l.n l.f)) (map letters_of (drop l.i (take l.n l.f))) l.mask l.b l.c
