-- `exports::verdict_of` meets its contract. Assumes nothing.
use mathlib.Core.Path.{◌∙◌, sym, ap}
use Prim.Native.Nat.{ℕ}
use Rattle.specification.specs.Results.{refused}
use Rattle.specification.specs.Returns.{returned, decision_returned}
use Rattle.integers.proofs.Machine.{back_is}
use Rattle.decision.specs.Answers.{decision_of}
use Rattle.decision.specs.declared.Decision.{Decision}
use Rattle.exports.proofs.verdict_of.Goals as goal

pub returns-in-Holds : goal.returns-in-Holds
unfolding returned decision_returned decision_of
returns-in-Holds c = sym (ap (λ (d : Decision). decision_returned (decision_of d)) c.in-Holds.is)

pub returns-in-Differs : goal.returns-in-Differs
unfolding returned decision_returned decision_of
returns-in-Differs c = sym (ap (λ (d : Decision). decision_returned (decision_of d)) c.in-Differs.is)

pub returns-in-Refused : goal.returns-in-Refused
unfolding returned decision_returned decision_of
returns-in-Refused c =
    back_is (record { sfits = c.refusal.type_inv }) ∙ c.refusal.ensures ∙ ap (λ (n : ℕ). returned (refused n)) c.number.ensures
    ∙ sym (ap (λ (d : Decision). decision_returned (decision_of d)) c.in-Refused.is)
