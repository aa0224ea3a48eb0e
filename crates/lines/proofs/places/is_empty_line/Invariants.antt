-- `lines::places::is_empty_line` meets its contract. The loop's invariant: what is left decides. Assumes nothing.
use Rattle.specification.specs.Lines.{is_empty_line}
use mathlib.Core.Path.{◌≡◌, refl}
use lib.ListN.{length, drop}
use Prim.Native.Nat.{◌-◌}
use native.Mathlib.Omega.{arith}
use Rattle.lines.proofs.Ends.{not_empty, blank-passed, all_blank}
use Rattle.lines.proofs.places.is_empty_line.Given as goal

abbrev pub invariant-loop-b : goal.invariant-loop-b
invariant-loop-b l = is_empty_line l.line ≡ is_empty_line (drop l.b-index l.line)
