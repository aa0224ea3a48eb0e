-- `operators::products::bring_few` meets its contract: the first i terms are brought in. Assumes nothing.
use mathlib.Core.Path.{◌≡◌, refl, sym, subst}
use Prim.Native.Nat.{◌+◌, ◌*◌}
use native.Mathlib.Omega.{arith}
use Rattle.gathering.specs.Bringing.{coef_bound, Bringable}
use Rattle.rows.proofs.RowForms.{light_more}
use Rattle.sums.proofs.Bringing.{brought_none}
use Rattle.operators.specs.Products.{few_bound}
use Rattle.operators.proofs.Multiplying.{few_more, few_all}
use Rattle.operators.proofs.products.bring_few.Goals.{Joined-i-eq0, then-i-eq0, else-i-eq0}
use Rattle.operators.proofs.products.bring_few.Goals as goal

-- which of the two it is
chosen : (c : Joined-i-eq0) → (c.loop-i.i ≡ 0 → c.if-i-eq0.t ≡ c.args.few.first)
    × ((c.loop-i.i ≡ 0 → ⊥) → c.if-i-eq0.t ≡ c.args.few.second)
chosen c =
    elim c.if-i-eq0.branch [
      | then-i-eq0 w ↦ (λ _. w.t-is, λ h. absurd (h w.if-i-eq0.true))
      | else-i-eq0 w ↦ (λ e. absurd (w.if-i-eq0.false e), λ _. w.t-is)
    ]

-- it can be brought in
bringable : (c : Joined-i-eq0) → Bringable c.if-i-eq0.t
bringable c = let p = c.requires in
    elim c.if-i-eq0.branch [
      | then-i-eq0 w ↦ subst Bringable (sym w.t-is) p.5
      | else-i-eq0 w ↦ subst Bringable (sym w.t-is) p.6
    ]

pub loop-i-init : goal.loop-i-init
loop-i-init c = (omega arith, brought_none _ _ _ c.requires.0, refl, refl)

pub bring_term-count-requires : goal.bring_term-count-requires
bring_term-count-requires c =
    let p = c.requires in
    let v = c.loop-i in
    let inside = c.loop-i-test.true in (
      v.invariant.1.run,
      light_more (few_bound + v.i * 2147483647) coef_bound _ _ (omega (arith, inside, p.4)) (v.invariant.1.light few_bound p.1),
      omega (arith, v.invariant.1.count, v.invariant.2, inside, p.2, p.4),
      omega (arith, v.invariant.1.count, v.invariant.3, inside, p.3, p.4),
      bringable (goal.at.bring_term-count-requires c).Joined-i-eq0,
    )

pub loop-i-preserved : goal.loop-i-preserved
loop-i-preserved c =
    let v = c.loop-i in
    let j = (goal.at.loop-i-preserved c).Joined-i-eq0 in
    let inside = c.loop-i-test.true in (
      omega (arith, inside),
      few_more _ _ _ c.args.few v.i _ _ _ v.invariant.1 c.if-i-eq0.t _ _ _ (omega (arith, inside, c.requires.4)) (chosen j).0 (chosen j).1
          c.bring_term-count.ensures,
      omega (arith, v.invariant.2),
      omega (arith, v.invariant.3),
    )

pub shape_of-rows : goal.shape_of-rows
shape_of-rows c = c.loop-i.invariant.2

pub shape_of-coefs : goal.shape_of-coefs
shape_of-coefs c = c.loop-i.invariant.3

pub returns : goal.returns
returns c =
    let v = c.loop-i in
    few_all _ _ _ c.args.few v.i _ _ _ v.invariant.1 (omega (arith, c.loop-i-test.false, v.invariant.0)) (omega (arith, v.invariant.0, c.requires.4))
