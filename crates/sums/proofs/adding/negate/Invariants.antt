-- `sums::adding::negate` meets its contract. The loop: the signs of the first i are turned, the others stand. Assumes nothing.
use mathlib.Core.Path.{◌≡◌, refl, ap, sym, subst, ◌∙◌}
use mathlib.Core.List.{List}
use Prim.Native.Nat.{ℕ, ◌-◌, ◌≤◌, ◌<◌}
use lib.IntN.{ℤ, pos, neg_ℤ, nat_abs}
use lib.ListN.{length, length-set, get_or}
use Rattle.integers.proofs.Machine.{back_is, size-asks}
use Rattle.terms.proofs.Arrays.{all-at}
use Rattle.rows.specs.Rows.{Light}
use Rattle.sums.proofs.Sums.{turned, turned_at_lem, turned_more, turned_all}
use native.Mathlib.Omega.{arith}
use Rattle.sums.proofs.adding.negate.Given as goal

abbrev pub invariant-loop-i : goal.invariant-loop-i
invariant-loop-i l = (l.i ≤ l.n) × (l.coefs ≡ turned l.i l.initial.coefs) × (length l.coefs ≡ length l.initial.coefs)
