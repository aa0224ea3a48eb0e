-- `sums::adding::negate` meets its contract. The loop: the signs of the first i are turned, the others stand. Assumes nothing.
use Rattle.std.proofs.Common.{rules}
use mathlib.Core.Path.{◌≡◌, refl, ap, sym, subst, ◌∙◌}
use mathlib.Core.List.{List}
use Prim.Native.Nat.{ℕ, ◌-◌, ◌≤◌, ◌<◌}
use lib.IntN.{ℤ, pos, neg_ℤ, nat_abs}
use lib.ListN.{length, length-set, get_or}
use Rattle.integers.proofs.Machine.{back_is, size-asks}
use Rattle.terms.proofs.Arrays.{all-at}
use Rattle.rows.specs.Rows.{Light}
use Rattle.sums.proofs.Sums.{turned, turned_at_lem, turned_more, turned_all}
use native.Mathlib.Omega.{arith}
use Rattle.sums.proofs.adding.negate.Goals.{Start}
use Rattle.sums.proofs.adding.negate.Goals as goal

-- the coefficient at i stands as it was lent
stands : (c : Start) (coefs : List ℤ) (i : ℕ) → i < c.args.n → coefs ≡ turned i c.args.coefs.now
    → get_or coefs i (pos 0) ≡ get_or c.args.coefs.now i (pos 0)
stands c coefs i h e = ap (λ (l : List ℤ). get_or l i (pos 0)) e ∙ turned_at_lem c.args.coefs.now i (omega (arith, c.requires.0))

light-at : (c : Start) (coefs : List ℤ) (i : ℕ) → i < c.args.n → coefs ≡ turned i c.args.coefs.now
    → nat_abs (get_or coefs i (pos 0)) ≤ 2147483647
unfolding Light
light-at c coefs i h e =
    subst (λ (z : ℤ). nat_abs z ≤ 2147483647) (sym (stands c coefs i h e))
    (all-at (λ (z : ℤ). nat_abs z ≤ 2147483647) c.args.coefs.now c.args.n i (pos 0) c.requires.0 h c.requires.1)

pub loop-i-init : goal.loop-i-init
loop-i-init c = (omega arith, refl, refl)

pub neg-c-requires : goal.neg-c-requires
neg-c-requires c =
    let v = c.loop-i in size-asks (get_or v.coefs v.i (pos 0))
    (light-at (goal.at.neg-c-requires c).Start v.coefs v.i c.loop-i-test.true v.invariant.1)

pub loop-i-preserved : goal.loop-i-preserved
loop-i-preserved c =
    let v = c.loop-i in (
      omega arith,
      turned_more _ _ _ _ v.invariant.1 (omega arith)
          (back_is (record { sfits = c.neg-c.type_inv }) ∙ c.neg-c.ensures
          ∙ ap neg_ℤ (back_is (record { sfits = c.neg-arg-1.given })
          ∙ stands (goal.at.loop-i-preserved c).Start v.coefs v.i c.loop-i-test.true v.invariant.1)),
      length-set v.coefs v.i _
          ∙ v.invariant.2,
    )

pub returns : goal.returns
returns c =
    let e : c.loop-i.i ≡ c.args.n = omega (arith, c.loop-i.invariant.0) in
    turned_all _ _ _ _ c.loop-i.invariant.1 e c.requires.0
