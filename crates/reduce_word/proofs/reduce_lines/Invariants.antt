-- `reduce_word::reduce_lines` meets its contract. The loop's invariant: what is left to be told is the whole (`LinesFrom`). Assumes nothing.
use Rattle.lines.specs.Places.{place_of}
use Rattle.specification.specs.Commands.{reduce_lines}
use Prim.Native.Nat.{◌-◌}
use lib.ListN.{length}
use mathlib.Core.List.{[]}
use mathlib.Core.Path.{◌≡◌}
use Rattle.reduce_word.proofs.Forms.{LinesFrom}
use Rattle.reduce_word.proofs.reduce_lines.Given as goal

abbrev pub invariant-loop : goal.invariant-loop
invariant-loop l =
    LinesFrom l.s (reduce_lines (length l.s) l.names l.table (place_of l.s l.initial.q) []) l.names l.table l.out (l.n - l.counter) l.q l.end
    × (length l.out ≡ length l.initial.out)
