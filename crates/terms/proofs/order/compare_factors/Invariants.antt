-- `terms::order::compare_factors`. The loop: the first k factors agree, so the first difference is among those from factor k on. Assumes nothing.
use mathlib.Core.Path.{◌≡◌, refl, sym, ◌∙◌}
use Prim.Native.Nat.{◌-◌, ◌≤◌}
use native.Mathlib.Omega.{arith}
use lib.ListN.{length, take, drop}
use Rattle.specification.specs.Lists.{order, first_difference}
use Rattle.terms.specs.Abstraction.{ordering_of}
use Rattle.terms.proofs.Orders.{first_less, first_more, first_later, first-none}
use Rattle.terms.proofs.order.compare_factors.Given as goal

abbrev pub invariant-loop-k : goal.invariant-loop-k
invariant-loop-k l = (l.k ≤ l.n) × (first_difference order (take l.n l.f) (take l.n l.g) ≡ first_difference order (drop l.k (take l.n l.f)) (drop l.k (take l.n l.g)))
