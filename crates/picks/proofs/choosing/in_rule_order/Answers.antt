use mathlib.Core.Path.{◌≡◌, ◌∙◌, ap}
use Prim.Native.Nat.{ℕ, ◌%◌}
use mathlib.Core.List.{◌∷◌, []}
use lib.ListN.{get_or}
use lib.Dec.{eqb}
use Rattle.specification.specs.Results.{when◌then◌else◌}
use Rattle.picks.proofs.Picks.{rule-ordered, chosen, not_chosen}
use Rattle.picks.proofs.choosing.in_rule_order.Goals.{else-rule-eq2, else-rule-eq3, then-rule-eq2, then-rule-eq3}
use Rattle.picks.proofs.choosing.in_rule_order.Goals as goal

pub returns : goal.returns
returns c = let w = c in
    let x = w.args.x.now in
    let y = w.args.y.now in
    let d : c.if-rule-eq2.d ≡ (when eqb w.args.rule 2 then get_or x 3
    0 else get_or y 0 0) =
    elim c.if-rule-eq2.branch [
      | then-rule-eq2 k ↦ k.d-is ∙ chosen (get_or x 3 0) (get_or y 0 0) w.args.rule 2 k.if-rule-eq2.true
      | else-rule-eq2 k ↦ k.d-is ∙ not_chosen (get_or x 3 0) (get_or y 0 0)
          w.args.rule 2 k.if-rule-eq2.false
    ] in
    let e : c.if-rule-eq3.e ≡ (when eqb w.args.rule 3 then get_or x 3 0 else get_or y 1
    0) =
    elim c.if-rule-eq3.branch [
      | then-rule-eq3 k ↦ k.e-is ∙ chosen (get_or x 3 0) (get_or y 1 0) w.args.rule 3 k.if-rule-eq3.true
      | else-rule-eq3 k ↦ k.e-is ∙ not_chosen (get_or x 3 0) (get_or y 1 0)
          w.args.rule 3 k.if-rule-eq3.false
    ] in
    rule-ordered w.args.rule w.requires.0 x y _ w.requires.1 w.requires.2
    (λ i. c.low-l0.ensures i ∷ c.low-l1.ensures
    i ∷ c.low-l2.ensures i ∷ (c.low-l3.ensures
    ∙ ap (λ (n : ℕ). n % 256) d) i ∷ (c.low-l4.ensures ∙ ap (λ (n : ℕ). n % 256) e) i ∷ c.low-l5.ensures i ∷ [])
