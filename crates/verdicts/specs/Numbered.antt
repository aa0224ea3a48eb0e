-- The checker's answer by its numbers. Assumes nothing.
use Rattle.std.specs.Prelude.{Ok, Err, ℕ}
use Rattle.std.specs.Prelude as Std
use Rattle.specification.specs.Logs as C
use Rattle.checker.specs.declared.Accepted.{Accepted}

-- accepted, or the number of a refusal, whatever it is, and its step
unfoldable pub numbered_of : Std.Result Accepted (ℕ × ℕ) → C.Checked
numbered_of (Ok a) = C.accepted a.first_end a.last_start a.steps
numbered_of (Err e) = C.refused_at e.0 e.1
