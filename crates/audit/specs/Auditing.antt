-- What the audit finds of a decision and of a log. Assumes nothing.
use Rattle.std.specs.Prelude.{Bool, true, ◌≡◌, List, ℕ, ◌≤◌, length, take, drop}
use Rattle.specification.specs.Logs.{accepted, check_call}
use Rattle.specification.specs.Decision.{buffer_bytes, work_bytes, holds, Decided}
use Rattle.decision.specs.declared.Decision.{Decision}
use Rattle.decision.specs.Answers.{decision_of}

-- true of a decision that holds, and of no other
pub record Said (d : Decision) (r : Bool) : Type 0 where
  pub is : decision_of d ≡ holds → r ≡ true
  pub only : r ≡ true → decision_of d ≡ holds

-- a log that is accepted with so many steps and whose ends hold
pub record EndsHold (table log : List ℕ) (steps : ℕ) (buffer work buffer' work' : List ℕ) : Type 0 where
  pub first_end : ℕ
  pub last_start : ℕ
  pub is_accepted : check_call table log ≡ accepted first_end last_start steps
  pub decided : Decided table (take first_end log) (drop last_start log) buffer work holds buffer' work'

-- the audit of a log finds it so where it is accepted with so many steps, and nowhere else
pub record LogAudited (table log : List ℕ) (steps : ℕ) (buffer work : List ℕ) (r : Bool) (buffer' work' : List ℕ) : Type 0 where
  pub found : (a b : ℕ) → check_call table log ≡ accepted a b steps → buffer_bytes ≤ length buffer → work_bytes ≤ length work → r ≡ true
  pub decided : (a b : ℕ) → check_call table log ≡ accepted a b steps → buffer_bytes ≤ length buffer → work_bytes ≤ length work → Decided table (take a log) (drop b log) buffer work holds buffer' work'
  pub only : r ≡ true → EndsHold table log steps buffer work buffer' work'
