-- `record_writing::count_of_size` meets its contract: after i turns the count is that of the first i numbers. Assumes nothing.
use mathlib.Core.Path.{◌≡◌, refl}
use mathlib.Core.Logic.{⊎_elim}
use Prim.Native.Nat.{◌≤◌, ◌<◌, ◌-◌}
use native.Mathlib.Omega.{arith}
use lib.ListN.{length, take}
use Rattle.specification.specs.Lists.{select}
use Rattle.specification.specs.Records.{factors_of}
use Rattle.terms.specs.Abstraction.{term_of}
use Rattle.record_writing.proofs.Factors.{sized, counted_more, counted_same}
use Rattle.record_writing.proofs.count_of_size.Given as goal

abbrev pub invariant-loop-i : goal.invariant-loop-i
invariant-loop-i l = (l.i ≤ l.n) × (l.count ≤ l.i) × (l.count ≡ length (sized l.size (take l.i l.t.factors)))
