-- The checker's answer: document 01's number and values for each case. Assumes nothing.
use Rattle.specification.specs.Logs.{refused_at, accepted}
use Rattle.specification.specs.Logs as L
use Rattle.std.specs.Prelude as Std
use Rattle.logs.specs.declared.steps.RefusedAt.{RefusedAt}
use Rattle.logs.specs.Steps.{found_of}
use Rattle.checker.specs.declared.Accepted.{Accepted}

-- accepted, with where the first form ends, where the last begins and the steps; or refused with its number and step
abbrev pub checked_of : Std.Result Accepted RefusedAt → L.Checked
checked_of r = found_of r (λ w. accepted w.first_end w.last_start w.steps)
