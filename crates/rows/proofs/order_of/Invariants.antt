-- `rows::order_of` meets its contract: the numbers from the place reached on decide what all decide. Assumes nothing.
use mathlib.Core.Path.{◌≡◌, refl, sym, ◌∙◌}
use Prim.Native.Nat.{◌+◌, ◌-◌, ◌≤◌, ◌%◌}
use native.Mathlib.Omega.{arith}
use lib.ListN.{length, take, drop, get_or}
use Rattle.specification.specs.Lists.{order, first_difference}
use Rattle.terms.specs.Abstraction.{ordering_of}
use Rattle.terms.proofs.Orders.{first_less, first_more, first_later, first-none}
use Rattle.rows.proofs.RowTerms.{by_row}
use Rattle.rows.proofs.order_of.Given as goal

abbrev pub invariant-loop-k : goal.invariant-loop-k
invariant-loop-k l = (l.k ≤ l.m) × (first_difference order (take l.m l.a) (take l.m l.b) ≡ first_difference order (drop l.k (take l.m l.a)) (drop l.k (take l.m l.b)))
