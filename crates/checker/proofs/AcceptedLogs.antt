-- What the checker's answer means (P7): it accepts exactly the logs that the replay accepts, these are the logs of derivations, and their ends have equal values
-- under every assignment. Assumes nothing.
use mathlib.Core.Path.{◌≡◌, ap, sym, subst, ◌∙◌}
use mathlib.Core.List.{List}
use Prim.Native.Nat.{ℕ, ◌≤◌}
use lib.Dec.{T}
use lib.ListN.{length, take, drop}
use Rattle.specification.specs.Terms.{Form}
use Rattle.specification.specs.Records.{write_form}
use Rattle.specification.specs.Rules.{Step}
use Rattle.specification.specs.Decision.{Decision, holds, buffer_bytes, work_bytes, Decided}
use Rattle.specification.specs.Logs.{write_log, accepted, refused_at, check_call, within_limits}
use Rattle.specification.specs.Logs as L
use Rattle.specification.specs.Promises.{AcceptedEnds, WithinLimits, LogPromise}
use Rattle.theory.specs.Records.Positions.{Bytes}
use Rattle.theory.proofs.Records.Logs.{last_start_of}
use Rattle.theory.proofs.Replay.Accepted.{Derives, derivation-accepted}
use Rattle.theory.proofs.Replay.Accepted as R
use Rattle.theory.proofs.Replay.Ends.{accepted-ends, ends-hold}
use Rattle.theory.specs.Replay.Limits as N
use Rattle.std.specs.Prelude.{Ok, Err}
use Rattle.std.specs.Prelude as Std
use Rattle.logs.specs.declared.steps.RefusedAt.{RefusedAt}
use Rattle.logs.specs.Steps.{found_of}
use Rattle.checker.specs.declared.Accepted.{Accepted}
use Rattle.checker.specs.Answers.{checked_of}

-- the answer for the log of a derivation: accepted, with its places and steps
pub answers-derivation : (table : List ℕ) (first : Form) (steps : List Step) (last : Form) → Derives table first steps last
    → checked_of (Ok (record { first_end = length (write_form first); last_start = last_start_of first steps; steps = length steps })) ≡ check_call table (write_log first steps last)
unfolding found_of
answers-derivation table first steps last d = sym (derivation-accepted table first steps last d)

-- the places and the steps of an accepted log
places : L.Checked → ℕ × ℕ × ℕ
places (accepted a b n) = (a, b, n)
places (refused_at n k) = (0, 0, 0)

module _ (table log : List ℕ) (r : Std.Result Accepted RefusedAt) (called : checked_of r ≡ check_call table log) where
  -- the checker accepts a log, with these places and steps, exactly where the replay does
  pub accepts-exactly : (a b n : ℕ) → (r ≡ Ok (record { first_end = a; last_start = b; steps = n }) → check_call table log ≡ accepted a b n) × (check_call table log ≡ accepted a b n → r ≡ Ok (record { first_end = a; last_start = b; steps = n }))
  unfolding found_of places
  accepts-exactly a b n = (λ e. sym called ∙ ap checked_of e, λ e. go r (called ∙ e))
    where
      go : (x : Std.Result Accepted RefusedAt) → checked_of x ≡ accepted a b n → x ≡ Ok (record { first_end = a; last_start = b; steps = n })
      go (Ok w) e = let p = ap places e in λ i. Ok (record { first_end = (p i).0; last_start = (p i).1; steps = (p i).2 })
      go (Err w) e = cc e

  -- of a log within the limits: accepted where the form reached is the last, else 13 at steps + 1
  pub limits-exactly : T (within_limits (checked_of r)) → WithinLimits log (checked_of r)
  limits-exactly w = subst (WithinLimits log) (sym called) (N.limits-exactly table log (subst (λ (c : L.Checked). T (within_limits c)) called w))

  -- what is promised of the answer
  pub log-promise : Bytes log → LogPromise log (checked_of r)
  log-promise bytes = record { ends = λ a b n e. accepted-ends table log a b n bytes (sym called ∙ e); limits = limits-exactly }

  module _ (bytes : Bytes log) (a b n : ℕ) (said : r ≡ Ok (record { first_end = a; last_start = b; steps = n })) where
    -- an accepted log is that of a derivation: so many steps, each admissible at the form that those before it reached, from the first form to the last
    pub accepted-log-derives : R.Accepted table log a b n
    accepted-log-derives = R.accepted-derives table log a b n bytes ((accepts-exactly a b n).0 said)

    -- its ends, read as the parts of the log at the places reported, have equal values under every assignment
    pub accepted-log-ends : AcceptedEnds log a b
    accepted-log-ends = accepted-ends table log a b n bytes ((accepts-exactly a b n).0 said)

    -- and decide "holds", whoever wrote it
    pub accepted-log-holds : (buffer work buffer' work' : List ℕ) (answer : Decision) → buffer_bytes ≤ length buffer → work_bytes ≤ length work
        → Decided table (take a log) (drop b log) buffer work answer buffer' work' → answer ≡ holds
    accepted-log-holds = ends-hold table log a b n bytes ((accepts-exactly a b n).0 said)
