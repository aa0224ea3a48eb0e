use Rattle.std.proofs.Common.{rules}
use Rattle.rules.proofs.Taking.{scalar-kinds, vector-no, vector-kinds}
use Rattle.rules.proofs.steps.kinds_fit.Goals as goal

pub returns-then-a-ne1 : goal.returns-then-a-ne1
returns-then-a-ne1 c = scalar-kinds _ _ _ _ c.rule_kind-a.ensures c.part_kind-b.ensures c.if-a-ne1.true

pub returns-then-b-ne0 : goal.returns-then-b-ne0
returns-then-b-ne0 c = vector-no _ _ _ _ c.rule_kind-a.ensures c.part_kind-b.ensures c.if-a-ne1.false c.if-b-ne0.true

pub returns : goal.returns
returns c = vector-kinds _ _ _ _ c.rule_kind-a.ensures c.part_kind-b.ensures c.if-a-ne1.false c.if-b-ne0.false
