-- `limits::all_within` meets its contract: the coefficients from the place reached on decide what all decide. Assumes nothing.
use mathlib.Core.Path.{◌≡◌, refl, ap, sym, ◌∙◌}
use Prim.Native.Nat.{◌-◌, ◌≤◌}
use native.Mathlib.Omega.{arith}
use borrow.Author.Tests.{not-true, not-false}
use lib.IntN.{pos}
use lib.ListN.{take, drop, get_or}
use Rattle.specification.specs.Terms.{coef_within}
use Rattle.specification.specs.Lists.{all}
use Rattle.integers.proofs.Machine.{back_is}
use Rattle.limits.proofs.Limits.{beyond-at, inside-at, inside-to_end}
use Rattle.limits.proofs.all_within.Given as goal

abbrev pub invariant-loop-i : goal.invariant-loop-i
invariant-loop-i l = (l.i ≤ l.n) × (all coef_within (take l.n l.coefs) ≡ all coef_within (drop l.i (take l.n l.coefs)))
