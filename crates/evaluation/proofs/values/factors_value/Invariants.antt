-- `evaluation::values::factors_value` meets its contract: v is the product of the factors from i on. Assumes nothing.
use mathlib.Core.Path.{◌≡◌}
use mathlib.Core.List.{map}
use Prim.Native.Nat.{◌≤◌}
use lib.ListN.{take, drop}
use Rattle.specification.specs.Evaluation.{assignment, factors_value}
use Rattle.terms.specs.Numbers.{letters_of}
use Rattle.evaluation.proofs.values.factors_value.Given as goal

abbrev pub invariant-loop-i : goal.invariant-loop-i
invariant-loop-i l = (l.i ≤ l.t.factor_count) × (l.v ≡ factors_value (assignment l.s) (map letters_of (drop l.i (take l.t.factor_count l.t.factors))))
