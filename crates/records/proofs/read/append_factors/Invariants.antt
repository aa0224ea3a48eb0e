-- `records::read::append_factors`. The loop: the first i factors of the record stand behind those that were there, and the position is behind them. Assumes nothing.
use mathlib.Core.Path.{◌≡◌}
use Prim.Native.Nat.{◌+◌, ◌-◌, ◌*◌, ◌≤◌}
use native.Mathlib.Omega.{arith}
use native.Mathlib.Nat.{suc-mul}
use native.Mathlib.Numerals.{add-one}
use lib.ListN.{length}
use Rattle.specification.specs.Records.{factors_at}
use Rattle.terms.specs.Build.{Appended}
use Rattle.records.specs.Reading.{listed}
use Rattle.records.proofs.Readers.{listed_none, listed-turn, turn-fits}
use Rattle.records.proofs.read.append_factors.Given as goal

abbrev pub invariant-loop-i : goal.invariant-loop-i
invariant-loop-i l = (l.i ≤ l.count) × (l.next ≡ l.at + l.i * l.size) × (length l.f ≡ 7) × Appended (factors_at l.i l.size l.s l.at) l.i (listed l.n l.initial.f) (listed (l.n + l.i) l.f)
