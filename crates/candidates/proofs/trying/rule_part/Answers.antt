use mathlib.Core.Path.{ap, sym, ◌∙◌}
use lib.ListN.{length}
use Rattle.specification.specs.Rules.{rule_kind}
use Rattle.picks.proofs.Openings.{part_left, part-kept}
use Rattle.candidates.proofs.trying.rule_part.Goals as goal

pub returns-then-rule_kind-eq1 : goal.returns-then-rule_kind-eq1
returns-then-rule_kind-eq1 c = c.part_letters.ensures ∙ sym (ap length (part_left c.args.p (rule_kind c.args.rule)
    (sym c.rule_kind.ensures ∙ c.if-rule_kind-eq1.true)))

pub returns : goal.returns
returns c = sym (ap length (part-kept c.args.p (rule_kind c.args.rule)
    (λ e. c.if-rule_kind-eq1.false (c.rule_kind.ensures ∙ e))))
