-- The answer of the audit: what it says in each case. Assumes nothing.
use Rattle.specification.specs.Auditing.{agreed, unaudited, apart}
use Rattle.specification.specs.Auditing as A
use Rattle.refusal.specs.Numbers.{number_of}
use Rattle.audit.specs.declared.Verdict.{Verdict}
use Rattle.audit.specs.declared.Verdict.TheVariants.{Agreed, Refused, Apart}

-- the length and the steps of the log on which all agree; refused with its number; or they do not agree
unfoldable pub verdict_of : Verdict → A.Verdict
verdict_of (Agreed w) = agreed w.size w.steps
verdict_of (Refused e) = unaudited (number_of e)
verdict_of Apart = apart
