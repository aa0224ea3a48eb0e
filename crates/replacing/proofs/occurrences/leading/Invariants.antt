-- `replacing::occurrences::leading`. The loop: the leading factors are the first i and the leading ones from factor i on. Assumes nothing.
use mathlib.Core.Path.{◌≡◌}
use mathlib.Core.List.{map}
use Prim.Native.Nat.{◌+◌, ◌-◌, ◌≤◌}
use lib.ListN.{take, drop}
use Rattle.theory.specs.Reduction.Standing.{leading_of}
use Rattle.terms.specs.Numbers.{letters_of}
use Rattle.replacing.proofs.occurrences.leading.Given as goal

abbrev pub invariant-loop-i : goal.invariant-loop-i
invariant-loop-i l = (l.i ≤ l.n) × (leading_of l.letter (map letters_of (take l.n l.f)) ≡ l.i + leading_of l.letter (map letters_of (drop l.i (take l.n l.f))))
