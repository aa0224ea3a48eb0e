use Rattle.std.proofs.Common.{rules}
use mathlib.Core.Path.{◌≡◌, ap, ◌∙◌, sym}
use Prim.Native.Nat.{ℕ, ◌-◌}
use mathlib.Core.List.{[]}
use lib.ListN.{length}
use Rattle.terms.specs.Abstraction.{part_of}
use Rattle.specification.specs.Results.{when◌then◌else◌}
use lib.Dec.{eqb}
use Rattle.specification.specs.Rules.{rule_kind}
use Rattle.specification.specs.Letters.{vector}
use Rattle.picks.specs.Choosing.{Pooled}
use Rattle.picks.proofs.Openings.{factors-small, factors-few, factors_left_lem, pool-filled, part_left, part-kept}
use Rattle.picks.proofs.Pools.{pooled_none, pooled_as, pooled_in}
use Rattle.picks.proofs.choosing.fill_pool.Goals.{Joined-rule_kind-eq1, Start, else-rule_kind-eq1, then-rule_kind-eq1}
use Rattle.picks.proofs.choosing.fill_pool.Goals as goal

seven : (c : Start) → length c.args.t.factors ≡ 7
seven c = search rules

part-pooled : (c : Joined-rule_kind-eq1) → Pooled (when eqb (rule_kind c.args.rule) vector then part_of c.args.t.part else [])
    c.if-rule_kind-eq1.pool c.if-rule_kind-eq1.c
part-pooled c = let w = c in
    let e = c.rule_kind.ensures in
    elim c.if-rule_kind-eq1.branch [
      | then-rule_kind-eq1 k ↦ pooled_in k.pool-is k.c-is (pooled_as (part_left w.args.t.part (rule_kind w.args.rule) (sym e ∙ k.if-rule_kind-eq1.true)) k.add_part-c.ensures)
      | else-rule_kind-eq1 k ↦ pooled_in k.pool-is k.c-is (pooled_as (part-kept w.args.t.part (rule_kind w.args.rule) (λ q. k.if-rule_kind-eq1.false (e ∙ q)))
          (pooled_none _ w.requires.1))
    ]

pub add_factors-requires : goal.add_factors-requires
add_factors-requires c = let w = c in
    let m = c.take_by_mask-m.ensures in (
      (part-pooled (goal.at.add_factors-requires c).Joined-rule_kind-eq1).few,
      (part-pooled (goal.at.add_factors-requires c).Joined-rule_kind-eq1
          ).places,
      factors-few w.args.t _ w.requires.0 (seven (goal.at.add_factors-requires c).Start) _ _ m,
      m.places,
      factors-small w.args.t _ w.requires.0 (seven (goal.at.add_factors-requires c).Start) _ _ m,
    )

pub returns : goal.returns
returns c = let w = c in
    pool-filled w.args.t w.args.k w.args.rule _
    (factors_left_lem w.args.t w.args.k _ w.requires.0 (seven (goal.at.returns c).Start) w.requires.2 (ap (λ (n : ℕ). n - 1 - w.args.k)
    c.mask_count.ensures) _ _ c.take_by_mask-m.ensures)
    (part-pooled (goal.at.returns c).Joined-rule_kind-eq1) c.add_factors.ensures
