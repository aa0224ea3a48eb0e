use mathlib.Core.Path.{ap, sym, ◌∙◌}
use mathlib.Core.Logic.{inl, inr}
use Prim.Native.Nat.{◌+◌}
use native.Mathlib.Omega.{arith}
use borrow.Author.Tests.{eqb-false}
use Rattle.specification.specs.Rules.{rule_kind}
use Rattle.candidates.specs.Trying.{RuledOut}
use Rattle.candidates.proofs.Scalars.{part_short}
use Rattle.candidates.proofs.trying.is_open.Goals as goal

pub returns-then-a-eq1 : goal.returns-then-a-eq1
unfolding RuledOut
returns-then-a-eq1 c = λ e. inl (c.if-kind-eq0.true, sym c.rule_kind-a.ensures ∙ c.if-a-eq1.true)

pub overflow_add-result : goal.overflow_add-result
overflow_add-result c = let w = c in omega (arith, c.rule_part.ensures, w.requires, part_short w.args.p (rule_kind w.args.rule))

pub returns : goal.returns
unfolding RuledOut
returns c = λ e. inr (λ q. eqb-false _ _ e (ap (λ n. c.args.left + n) c.rule_part.ensures ∙ q
    ∙ sym c.rule_letters.ensures.0))
