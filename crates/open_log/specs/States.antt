-- The state of an open log as data, and what was read of it. Assumes nothing.
use Rattle.std.specs.Prelude.{◌≡◌, List, ℕ, ◌≤◌, length, take, IfOk}
use Rattle.std.specs.Prelude as Std
use Rattle.specification.specs.Results.{Result}
use Rattle.refusal.specs.declared.Refusal.{Refusal}
use Rattle.refusal.specs.Tests.{answer_of}
use Rattle.specification.specs.Records.{write_into}
use Rattle.specification.specs.OpenLogs.{write_state}
use Rattle.specification.specs.OpenLogs as O
use Rattle.terms.specs.Abstraction.{form_of}
use Rattle.terms.specs.Valid.{FormValid}
use Rattle.open_log.specs.declared.state.State.{State}

-- the state, its table up to its length
unfoldable pub state_of : State → O.State
state_of s = record { table = take s.letters s.table; count = s.count; form = form_of s.form }

-- what one function may ask of another's state
pub record StateValid (s : State) : Type 0 where
  pub few : s.letters ≤ 24
  pub form : FormValid s.form

-- what was read of a state
unfoldable pub state_read_of : Std.Result State Refusal → Result O.State
state_read_of q = answer_of state_of q

-- a state read
pub record StateReadAs (read : Result O.State) (q : Std.Result State Refusal) : Type 0 where
  pub is : state_read_of q ≡ read
  pub valid : IfOk q StateValid

-- the bytes of a state in front of those lent, and how many
pub record StateWritten (before after : List ℕ) (size : ℕ) (state : O.State) : Type 0 where
  pub ends : size ≡ length (write_state state)
  pub bytes : after ≡ write_into (write_state state) before
