use native.Mathlib.Omega.{arith}
use mathlib.Core.Path.{◌≡◌, ap, sym, subst, ◌∙◌}
use Prim.Native.Nat.{ℕ, ◌≤◌, ◌<◌, ◌-◌, ◌^◌}
use lib.ListN.{length, take}
use lib.Seq.{length-take-le}
use Rattle.theory.specs.Elements.{All}
use Rattle.specification.specs.Rules.{rule_letters}
use Rattle.picks.proofs.Picks.{wrong_size, block_falls, others-fall, block-not_first, picked_is, picked_as}
use Rattle.picks.proofs.choosing.pick.Goals.{else-rule-eq5, then-rule-eq5+else-x-y}
use Rattle.picks.proofs.choosing.pick.Goals as goal

pub returns-then-a-block_size : goal.returns-then-a-block_size
returns-then-a-block_size c = let w = c in
    let p = w.args.pool.now in
    let n = c.rule_letters-n.result in
    let e : n ≡ rule_letters w.args.rule = c.rule_letters-n.ensures.0 in
    let long : length (take n p) ≡ n = length-take-le n p (omega (arith, c.rule_letters-n.ensures.1, w.requires.rule.1)) in
    let few : length (take n p) ≤ 7 = omega (arith, long, c.rule_letters-n.ensures.1) in
    picked_as p e
    (wrong_size (take n p) w.args.rule w.args.j _ _ c.take_by_mask-a.ensures few _ c.block_size.ensures c.if-a-block_size.true)

pub ascend_strictly-requires : goal.ascend_strictly-requires
ascend_strictly-requires c = let w = c in let m = c.take_by_mask-a.ensures in (
  omega (
    arith,
    m.few,
    length-take-le c.rule_letters-n.result w.args.pool.now (omega (
      arith,
      c.rule_letters-n.ensures.1,
      w.requires.rule.1,
    )),
    c.rule_letters-n.ensures.1,
  ),
  m.places,
)

pub returns-then-not-ascend_strictly : goal.returns-then-not-ascend_strictly
returns-then-not-ascend_strictly c = let w = c in
    let p = w.args.pool.now in
    let n = c.rule_letters-n.result in
    let e : n ≡ rule_letters w.args.rule = c.rule_letters-n.ensures.0 in
    let long : length (take n p) ≡ n = length-take-le n p (omega (
      arith,
      c.rule_letters-n.ensures.1,
      w.requires.rule.1,
    )) in
    let few : length (take n p) ≤ 7 = omega (arith, long, c.rule_letters-n.ensures.1) in
    picked_as p e
    (block_falls (take n p) w.args.rule w.args.j _ _ c.take_by_mask-a.ensures few _ c.block_size.ensures c.if-a-block_size.false _ c.ascend_strictly.ensures c.if-not-ascend_strictly.true)

pub overflow_sub-left : goal.overflow_sub-left
overflow_sub-left c = let w = c in omega (
  arith,
  c.mask_count.ensures,
  subst (λ (m : ℕ). w.args.j < 2 ^ m) (sym c.rule_letters-n.ensures.0) w.requires.rule.2,
)

pub overflow_sub-left-2 : goal.overflow_sub-left-2
overflow_sub-left-2 c = let w = c in omega (
  arith,
  c.mask_count.ensures,
  subst (λ (m : ℕ). w.args.j < 2 ^ m) (sym c.rule_letters-n.ensures.0) w.requires.rule.2,
)

pub ascend_strictly-requires-2 : goal.ascend_strictly-requires-2
ascend_strictly-requires-2 c = let w = c in let m =
    c.take_by_mask-b.ensures in (
      omega (
        arith,
        m.few,
        length-take-le c.rule_letters-n.result w.args.pool.now (omega (
          arith,
          c.rule_letters-n.ensures.1,
          w.requires.rule.1,
        )),
        c.rule_letters-n.ensures.1,
      ),
      m.places,
    )

pub returns-then-not-ascend_strictly-2 : goal.returns-then-not-ascend_strictly-2
returns-then-not-ascend_strictly-2 c = let w = c in
    let p = w.args.pool.now in
    let n = c.rule_letters-n.result in
    let e : n ≡ rule_letters w.args.rule = c.rule_letters-n.ensures.0 in
    let long : length (take n p) ≡ n = length-take-le n p (omega (
      arith,
      c.rule_letters-n.ensures.1,
      w.requires.rule.1,
    )) in
    let few : length (take n p) ≤ 7 = omega (
      arith,
      long,
      c.rule_letters-n.ensures.1,
    ) in
    picked_as p e
    (others-fall (take n p) w.args.rule w.args.j _ _ c.take_by_mask-a.ensures few _ c.block_size.ensures
    c.if-a-block_size.false
    _ c.ascend_strictly.ensures
    c.if-not-ascend_strictly.false _ _ _ (subst (λ (m : ℕ). w.args.j < 2 ^ m) (sym (long ∙ e))
    w.requires.rule.2) (ap (λ (m : ℕ). m - 1 - w.args.j) (c.mask_count.ensures ∙ ap (λ (m : ℕ). 2 ^ m)
    (sym long))) c.take_by_mask-b.ensures
    _ c.ascend_strictly-2.ensures c.if-not-ascend_strictly-2.true)

pub returns-then-x-y : goal.returns-then-x-y
returns-then-x-y c = let w = c in
    let p = w.args.pool.now in
    let n = c.rule_letters-n.result in
    let e : n ≡ rule_letters w.args.rule = c.rule_letters-n.ensures.0 in
    let long : length (take n p) ≡ n = length-take-le n p (omega (
      arith,
      c.rule_letters-n.ensures.1,
      w.requires.rule.1,
    )) in
    let few : length (take n p) ≤ 7 = omega (
      arith,
      long,
      c.rule_letters-n.ensures.1,
    ) in
    picked_as p e
    (block-not_first (take n p) w.args.rule w.args.j _ _ c.take_by_mask-a.ensures few _ c.block_size.ensures c.if-a-block_size.false _
    c.ascend_strictly.ensures
    c.if-not-ascend_strictly.false _ _ _ (subst (λ (m : ℕ). w.args.j < 2 ^ m)
    (sym (long ∙ e)) w.requires.rule.2) (ap (λ (m : ℕ). m - 1 - w.args.j) (c.mask_count.ensures ∙ ap (λ (m : ℕ). 2 ^ m) (sym long))) c.take_by_mask-b.ensures
    _ c.ascend_strictly-2.ensures c.if-not-ascend_strictly-2.false w.requires.rule.0 (long ∙ e)
    c.if-rule-eq5.true c.if-x-y.true)

pub returns : goal.returns
returns c = let w = c in
    let p = w.args.pool.now in
    let n = c.rule_letters-n.result in
    let e : n ≡ rule_letters w.args.rule = c.rule_letters-n.ensures.0 in
    let long : length (take n p) ≡ n = length-take-le n p (omega (
      arith,
      c.rule_letters-n.ensures.1,
      w.requires.rule.1,
    )) in
    let few : length (take n p) ≤ 7 = omega (
      arith,
      long,
      c.rule_letters-n.ensures.1,
    ) in
    picked_as p e
    (picked_is (take n p) w.args.rule w.args.j _ _ c.take_by_mask-a.ensures few _ c.block_size.ensures c.if-a-block_size.false _ c.ascend_strictly.ensures
    c.if-not-ascend_strictly.false
    _ _ _ (subst (λ (m : ℕ). w.args.j < 2 ^ m) (sym (long ∙ e)) w.requires.rule.2) (ap (λ (m : ℕ). m - 1 - w.args.j)
    (c.mask_count.ensures ∙ ap (λ (m : ℕ). 2 ^ m) (sym long)))
    c.take_by_mask-b.ensures
    _ c.ascend_strictly-2.ensures c.if-not-ascend_strictly-2.false w.requires.rule.0
    (long ∙ e) _ c.in_rule_order.ensures (subst (λ (m : ℕ). All (λ (x : ℕ). x < 256) (take m p)) (sym e) w.requires.small) (λ q. elim c.if-rule-eq5.branch [ then-rule-eq5+else-x-y w ↦ w.if-x-y.false | else-rule-eq5 w ↦ absurd (w.if-rule-eq5.false q) ]))
