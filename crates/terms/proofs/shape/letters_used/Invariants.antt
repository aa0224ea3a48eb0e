-- `terms::shape::letters_used`. The loop: the letters counted and those of the factors from factor i on are all letters. Assumes nothing.
use mathlib.Core.Path.{◌≡◌}
use Prim.Native.Nat.{◌+◌, ◌-◌, ◌*◌, ◌≤◌}
use native.Mathlib.Omega.{arith}
use lib.ListN.{length, take, drop}
use Rattle.terms.proofs.InShape.{vectors_more, scalars_more, vectors_all, scalars_all}
use mathlib.Core.List.{map}
use Rattle.specification.specs.Terms.{vector_letters_of, scalar_letters_of}
use Rattle.terms.specs.Numbers.{letters_of}
use Rattle.terms.proofs.shape.letters_used.Given as goal

abbrev pub invariant-loop-i : goal.invariant-loop-i
invariant-loop-i l = (l.i ≤ l.n) × (l.n ≤ 7) × (vector_letters_of (map letters_of (take l.n l.f)) ≡ l.vectors + vector_letters_of (map letters_of (drop l.i (take l.n l.f))))
    × (scalar_letters_of (map letters_of (take l.n l.f)) ≡ l.scalars + scalar_letters_of (map letters_of (drop l.i (take l.n l.f)))) × (l.vectors ≤ 3 * l.i) × (l.scalars ≤ l.i)
