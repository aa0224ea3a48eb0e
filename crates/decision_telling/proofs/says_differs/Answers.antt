-- `decision_telling::says_differs` meets its contract. Assumes nothing.
use mathlib.Core.Path.{sym, ap}
use Rattle.decision.specs.Answers.{decision_of}
use Rattle.decision.specs.declared.Decision.{Decision}
use Rattle.decision_telling.specs.Comparisons.{is_differs}
use Rattle.decision_telling.proofs.says_differs.Goals as goal

pub returns-in-Holds : goal.returns-in-Holds
unfolding is_differs decision_of
returns-in-Holds c = sym (ap (λ (d : Decision). is_differs (decision_of d)) c.in-Holds.is)

pub returns-in-Differs : goal.returns-in-Differs
unfolding is_differs decision_of
returns-in-Differs c = sym (ap (λ (d : Decision). is_differs (decision_of d)) c.in-Differs.is)

pub returns-in-Refused : goal.returns-in-Refused
unfolding is_differs decision_of
returns-in-Refused c = sym (ap (λ (d : Decision). is_differs (decision_of d)) c.in-Refused.is)
