-- `lines::places::to_line` meets its contract. The loop's invariant: what is left to be passed (`PassingFrom`). Assumes nothing.
use Rattle.lines.specs.Places.{place_of}
use borrow.Author.Tests.{not-true, not-false}
use native.Mathlib.Omega.{arith}
use Prim.Native.Nat.{◌-◌}
use Rattle.lines.proofs.Ends.{PassingFrom, passing_begins, passing-done, passing-ends, passing-stands, passing_on}
use Rattle.lines.proofs.places.to_line.Given as goal

abbrev pub invariant-loop : goal.invariant-loop
invariant-loop l = PassingFrom l.s (place_of l.s l.initial.q) l.q (l.n - l.counter)
