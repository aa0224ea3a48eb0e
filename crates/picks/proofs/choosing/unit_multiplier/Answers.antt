use Rattle.std.proofs.Common.{rules}
use mathlib.Core.Path.{◌≡◌, ◌∙◌, ap, sym}
use lib.ListN.{length}
use Rattle.picks.proofs.Openings.{unit-multiplier_is, part-gone, part_stays}
use Rattle.terms.specs.Abstraction.{part_of}
use Rattle.specification.specs.Rules.{rule_kind}
use Rattle.picks.proofs.choosing.unit_multiplier.Goals.{Start, else-rule_kind-eq1, then-rule_kind-eq1}
use Rattle.picks.proofs.choosing.unit_multiplier.Goals as goal

seven : (c : Start) → length c.args.t.factors ≡ 7
seven c = search rules

pub returns : goal.returns
unfolding part_of
returns c = let w = c in
    let e = c.rule_kind.ensures in
    unit-multiplier_is w.args.t w.args.k w.args.rule w.requires (seven (goal.at.returns c).Start) _ _ _ c.take_by_mask-n.ensures
    (elim c.if-rule_kind-eq1.branch [ then-rule_kind-eq1 k ↦ ap part_of k.p-is ∙ part-gone w.args.t.part (rule_kind w.args.rule) (sym e ∙ k.if-rule_kind-eq1.true) | else-rule_kind-eq1 k ↦ ap part_of k.p-is ∙ part_stays w.args.t.part (rule_kind w.args.rule) (λ q. k.if-rule_kind-eq1.false (e ∙ q)) ])
