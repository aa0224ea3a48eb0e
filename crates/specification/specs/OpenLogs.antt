-- A log that stays open (document 02, K5): its state and the state's bytes, the five calls, and what a list of calls leaves. Assumes nothing.
use Rattle.std.specs.Prelude.{◌&&◌, List, [], ◌∷◌, ◌++◌, ℕ, ◌+◌, length, get_or, take, drop, ltb, leb, eqb}
use Rattle.specification.specs.Lists.{joined}
use Rattle.specification.specs.Results.{Result, Test, refused, given, ◌>>=◌, ◌>>◌, require}
use Rattle.specification.specs.Letters.{good_table, test_table}
use Rattle.specification.specs.Terms.{Form}
use Rattle.specification.specs.Records.{form_bytes, write_form, write_into, answer_form, take_form}
use Rattle.specification.specs.Rules.{Step, step_at}
use Rattle.specification.specs.Logs.{read_step_at, same_form}
use Rattle.specification.specs.Decision.{Decision, buffer_bytes, work_bytes, DecidedBy}

-- a call that gives a state writes its bytes into at least 796: 1 + 24 + 1 + 770
abbrev pub state_bytes : ℕ
state_bytes = 796

-- ════ the state

-- a table, "which holds for the whole list", the number of steps taken, and the form reached
pub record State : Type 0 where
  pub table : List ℕ
  pub count : ℕ
  pub form : Form

-- the table's length, the table, the count, the form's record; that none has more than `state_bytes` is a theorem (`state_short`)
unfoldable pub write_state : State → List ℕ
write_state state = length state.table ∷ state.table ++ state.count ∷ write_form state.form

-- the table in the bytes of a state
unfoldable pub state_table : (s : List ℕ) → List ℕ
state_table s = take (get_or s 0 0) (drop 1 s)

-- the count in the bytes of a state
unfoldable pub state_count : (s : List ℕ) → ℕ
state_count s = get_or s (get_or s 0 0 + 1) 0

-- the form's record in the bytes of a state
unfoldable pub state_form : (s : List ℕ) → List ℕ
state_form s = drop (get_or s 0 0 + 2) s

-- whatever refuses, the number is 11
unfoldable pub else_shape : {A : Type 0} → Result A → Result A
else_shape (refused n) = refused 11
else_shape (given a) = given a

-- "a made-up state whose table, form or step count breaks a rule here is refused 11 before all else"; bytes missing or left over break one too
unfoldable pub read_state : (s : List ℕ) → Result State
read_state s = do
  require (leb (get_or s 0 0 + 2) (length s)) 11
  require (good_table (state_table s)) 11
  require (leb (state_count s) 64) 11
  form ← else_shape (take_form (state_table s) (state_form s))
  given (record { table = state_table s; count = state_count s; form = form })

-- a state or the number as a call's answer: the length written, and the memory lent, afterwards
unfoldable pub answer_state : Result State → (memory : List ℕ) → Result ℕ × List ℕ
answer_state (refused n) memory = (refused n, memory)
answer_state (given state) memory = (given (length (write_state state)), write_into (write_state state) memory)

-- ════ open with a table and a first form

-- the tests of the call in their order: 1, 2, then contents
unfoldable pub open_tested : (table form memory : List ℕ) → Result State
open_tested table form memory = do
  test_table table
  require (leb state_bytes (length memory)) 2
  first ← take_form table form
  given (record { table = table; count = 0; form = first })

-- the length of the first state, or the number; and the memory lent, afterwards
unfoldable pub open_call : (table form memory : List ℕ) → Result ℕ × List ℕ
open_call table form memory = answer_state (open_tested table form memory) memory

-- ════ add a step

-- the step whose record the bytes are, from the first to the last
unfoldable pub read_step : (s : List ℕ) → Result Step
read_step s = do
  (step, next) ← read_step_at s 0
  require (eqb next (length s)) 11
  given step

-- "a step is taken exactly when its shape (11) and then its letters (5, 6) pass and it is admissible at the form reached"
unfoldable pub step_from : (table : List ℕ) (f : Form) (s : List ℕ) → Result Form
step_from table f s = do
  step ← read_step s
  step_at table f step

-- the state behind a step: "14 for a 65th step, tested before anything in that step"
unfoldable pub add_to : (state : State) (s : List ℕ) → Result State
add_to state s = do
  require (ltb state.count 64) 14
  reached ← step_from state.table state.form s
  given (record { table = state.table; count = state.count + 1; form = reached })

-- the tests of the call in their order: the state, 2, then the step
unfoldable pub add_tested : (s step memory : List ℕ) → Result State
add_tested s step memory = do
  state ← read_state s
  require (leb state_bytes (length memory)) 2
  add_to state step

-- the length of the next state, or the number; and the memory lent, afterwards
unfoldable pub add_call : (s step memory : List ℕ) → Result ℕ × List ℕ
add_call s step memory = answer_state (add_tested s step memory) memory

-- ════ look at the form reached

-- the tests of the call in their order: the state, then 2
unfoldable pub look_tested : (s out : List ℕ) → Result Form
look_tested s out = do
  state ← read_state s
  require (leb form_bytes (length out)) 2
  given state.form

-- the length of the form's record, or the number; and the memory lent, afterwards
unfoldable pub look_call : (s out : List ℕ) → Result ℕ × List ℕ
look_call s out = answer_form (look_tested s out) out

-- ════ decide the form reached against another

-- the tests of the call in their order: the state, 2, the other form, and that the kinds are alike; the form reached is the first of the two
unfoldable pub decide_open_tested : (s form buffer work : List ℕ) → Result (Form × Form)
decide_open_tested s form buffer work = do
  state ← read_state s
  require (leb buffer_bytes (length buffer) && leb work_bytes (length work)) 2
  other ← take_form state.table form
  require (eqb state.form.kind other.kind) 6
  given (state.form, other)

-- the answer, and the buffer and the work bytes afterwards: what the decision says of the two forms
unfoldable pub DecidedOpen : (s form buffer work : List ℕ) (answer : Decision) (buffer' work' : List ℕ) → Type 0
DecidedOpen s form buffer work answer buffer' work' =
    DecidedBy (decide_open_tested s form buffer work) (state_table s) buffer work answer buffer' work'

-- ════ close with a last form

-- the last form is taken, and is the form reached: 13 for another, of any kind
unfoldable pub close_at : (state : State) (form : List ℕ) → Test
close_at state form = do
  last ← take_form state.table form
  require (same_form last state.form) 13

-- the tests of the call in their order: the state, then the last form; no memory is written
unfoldable pub close_call : (s form : List ℕ) → Test
close_call s form = do
  state ← read_state s
  close_at state form

-- ════ lists of calls

-- a call after an opening, with the bytes that it hands over and the memory that it lends
pub data Call : Type 0 where
  adding : (step memory : List ℕ) → Call
  looking : (out : List ℕ) → Call
  deciding : (form buffer work : List ℕ) → Call
  closing : (form : List ℕ) → Call

-- a log while it is open: the bytes of its state, and the records of the steps taken
pub record OpenLog : Type 0 where
  pub state : List ℕ
  pub steps : List (List ℕ)

-- what an opening leaves: the bytes written, if it is not refused
unfoldable pub opened : (answer : Result ℕ) (memory : List ℕ) → Result OpenLog
opened (refused n) memory = refused n
opened (given n) memory = given (record { state = take n memory; steps = [] })

-- what adding leaves: the bytes written are the state, and the step is taken; "A refused step leaves the log open as before"
unfoldable pub added : (log : OpenLog) (step : List ℕ) (answer : Result ℕ) (memory : List ℕ) → OpenLog
added log step (refused n) memory = log
added log step (given n) memory = record { state = take n memory; steps = log.steps ++ step ∷ [] }

-- "So does a refused closing; an accepted one ends the list"
unfoldable pub closed : (answer : Test) (log rest : OpenLog) → OpenLog
closed (refused n) log rest = rest
closed (given u) log rest = log

-- the log after calls, each with the state that the one before gave back; "Looking and deciding change nothing": both only read the state, and give none back
unfoldable pub run : (log : OpenLog) (calls : List Call) → OpenLog
run log [] = log
run log (adding step memory ∷ cs) =
    run (added log step (add_call log.state step memory).0 (add_call log.state step memory).1) cs
run log (looking out ∷ cs) = run log cs
run log (deciding form buffer work ∷ cs) = run log cs
run log (closing form ∷ cs) = closed (close_call log.state form) log (run log cs)

-- the whole log: "the first form, the steps that were taken, and the last form"
unfoldable pub whole_log : (first : List ℕ) (steps : List (List ℕ)) (last : List ℕ) → List ℕ
whole_log first steps last = first ++ length steps ∷ joined steps ++ last
