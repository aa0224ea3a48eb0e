-- `limits::largest` meets its contract: none of the coefficients passed is larger. Assumes nothing.
use Rattle.std.proofs.Common.{rules}
use mathlib.Core.Path.{◌≡◌, ap, subst, ◌∙◌}
use mathlib.Core.Logic.{⊎_elim}
use Prim.Native.Nat.{ℕ, ◌-◌, ◌≤◌}
use native.Mathlib.Omega.{arith}
use lib.IntN.{pos, nat_abs}
use lib.ListN.{get_or}
use Rattle.integers.proofs.Machine.{back_is}
use Rattle.rows.specs.Rows.{Light}
use Rattle.rows.proofs.RowForms.{light_more, light_next, light-at}
use Rattle.limits.proofs.largest.Goals.{else-v-most, then-v-most, After-size-v, In-loop-i, Joined-v-most}
use Rattle.limits.proofs.largest.Goals as goal

-- the coefficient at the place
small : (c : In-loop-i) → nat_abs (get_or c.args.coefs.now c.loop-i.i (pos 0)) ≤ 2147483647
small c = let a = c in light-at _ 2147483647 a.args.n c.loop-i.i a.requires.0 c.loop-i-test.true a.requires.1

-- and its size
sized : (c : After-size-v) → c.size-v.result ≡ nat_abs (get_or c.args.coefs.now
    c.loop-i.i
    (pos 0))
sized c = c.size-v.ensures ∙ ap nat_abs (back_is {z = get_or c.args.coefs.now c.loop-i.i (pos 0)}
    (record {
      sfits =
          c.size-arg-1.given;
    }))

-- the larger of the two
larger : (c : Joined-v-most) → (c.loop-i.most ≤ c.if-v-most.most) × (c.size-v.result ≤ c.if-v-most.most)
    × (c.if-v-most.most ≤ 2147483647)
larger c = let v = c.loop-i in
    let e : c.size-v.result ≤ 2147483647 = omega (arith, sized c.before, small c.before.before.before) in
    elim c.if-v-most.branch [
      | then-v-most w ↦ (omega (arith, w.if-v-most.true, w.most-is), omega (arith, w.most-is), omega (arith, w.most-is, e))
      | else-v-most w ↦ (omega (arith, w.most-is), omega (arith, w.if-v-most.false, w.most-is), omega (arith, w.most-is, v.invariant.2))
    ]

pub loop-i-init : goal.loop-i-init
unfolding Light
loop-i-init c = (omega arith, tt, omega arith)

pub offset_bounds-coefs-i : goal.offset_bounds-coefs-i
offset_bounds-coefs-i c = omega (arith, c.requires.0)

pub bounds-coefs-i : goal.bounds-coefs-i
bounds-coefs-i c = omega (arith, c.requires.0)

pub size-v-requires : goal.size-v-requires
size-v-requires c = rw (back_is {z = get_or c.args.coefs.now c.loop-i.i (pos 0)}
    (record { sfits = c.size-arg-1.given }))
    (omega (arith, small (goal.at.size-v-requires c).In-loop-i))

pub loop-i-preserved : goal.loop-i-preserved
loop-i-preserved c = let a = c in
    let v = c.loop-i in
    let g = larger (goal.at.loop-i-preserved c).Joined-v-most in (
      omega (arith, c.loop-i-test.true),
      light_next _ c.if-v-most.most v.i (omega (arith, c.loop-i-test.true, a.requires.0))
          (light_more v.most c.if-v-most.most v.i _ g.0 v.invariant.1) (omega (arith, g.1, sized (goal.at.loop-i-preserved c).After-size-v)),
      g.2,
    )

pub returns : goal.returns
returns c = let a = c in
    let v = c.loop-i in
    let e : v.i ≡ a.args.n = omega (arith, c.loop-i-test.false, v.invariant.0) in
    (subst (λ (k : ℕ). Light v.most k a.args.coefs.now) e v.invariant.1, v.invariant.2)
