-- The answer of the decision: document 01's number and value for each case. Assumes nothing.
use Rattle.specification.specs.Decision as S
use Rattle.refusal.specs.Numbers.{number_of}
use Rattle.decision.specs.declared.Decision.{Decision}
use Rattle.decision.specs.declared.Decision.TheVariants.{Holds, Differs, Refused}

-- holds, differs, or the number of the refusal
unfoldable pub decision_of : Decision → S.Decision
decision_of Holds = S.holds
decision_of Differs = S.differs
decision_of (Refused e) = S.undecided (number_of e)
