-- What a list of calls leaves: after an opening, the state is the replay of the steps taken, whatever the calls. Assumes nothing.
use Rattle.std.specs.Prelude.{◌≡◌, refl, ℕ, ◌+◌, ◌<◌, length, take, drop, ltb, leb, eqb}
use Rattle.std.proofs.Common.{ap, sym, ◌∙◌, arith, length-append, take_at, ltb→lt, eqb→eq}
use Rattle.std.proofs.Math.Path.{subst}
use mathlib.Core.List.{List, [], ◌∷◌, ◌++◌, map, map-append}
use Rattle.specification.specs.Results.{Result, Test, refused, given}
use Rattle.specification.specs.Letters.{test_table}
use Rattle.specification.specs.Terms.{Form}
use Rattle.specification.specs.Records.{write_form, write_into, take_form}
use Rattle.specification.specs.Rules.{Step, step_at}
use Rattle.specification.specs.Logs.{write_step, read_step_at}
use Rattle.specification.specs.OpenLogs.{state_bytes, State, write_state, read_state, answer_state, open_tested, open_call, read_step, step_from, add_to, add_tested, add_call}
use Rattle.specification.specs.OpenLogs.{close_call, Call, adding, looking, deciding, closing, OpenLog, opened, added, closed, run}
use Rattle.specification.specs.Promises.{Replayed}
use Rattle.theory.specs.Tests.{refused≢given, given_same, past, into, tested}
use Rattle.theory.specs.Elements.{All, all_append}
use Rattle.theory.specs.Shape.Letters.{table_good_lem}
use Rattle.theory.specs.Records.Positions.{Spells, Bytes, spells-whole}
use Rattle.theory.proofs.Records.Logs.{step_written}
use Rattle.theory.proofs.Replay.Accepted.{Derives}
use Rattle.theory.proofs.Replay.Ends.{derives_none, derives_more}
use Rattle.theory.proofs.OpenLogs.States.{StateGood, form_taken_lem, taken_form, state_read-back}

-- ════ a step's record

-- bytes that are read as a step are its record
step_one_record : (s : List ℕ) (step : Step) → Bytes s → read_step s ≡ given step → write_step step ≡ s
unfolding read_step
step_one_record s step bs e =
    into (read_step_at s 0) _ step e λ r e₁ e₂.
    past (eqb r.1 (length s)) 11 _ step e₂ λ l e₃.
    let w = step_written s 0 r.1 r.0 bs e₁ in
    let q : Spells s 0 (length s) (write_step r.0) = rw (← eqb→eq r.1 (length s) l) w.spelled in
    subst (λ (st : Step). write_step st ≡ s) (given_same e₃) (spells-whole s (write_step r.0) q)

-- ════ what an answer leaves

written_front : (bytes memory : List ℕ) → take (length bytes) (write_into bytes memory) ≡ bytes
unfolding write_into
written_front bytes memory = take_at bytes (drop (length bytes) memory) (length bytes) refl

-- what an opening leaves, by the state that its tests give
opened_with : (r : Result State) (memory : List ℕ) (log : OpenLog) → opened (answer_state r memory).0 (answer_state r memory).1 ≡ given log
    → (state : State) × (r ≡ given state) × (record { state = write_state state; steps = [] } ≡ log)
unfolding opened answer_state
opened_with (refused n) memory log e = absurd (refused≢given e)
opened_with (given state) memory log e =
    (state, refl, ap (λ (w : List ℕ). record { state = w; steps = [] }) (sym (written_front (write_state state) memory)) ∙ given_same e)

-- what adding leaves, by the state that its tests give
abbrev added_by : (log : OpenLog) (step : List ℕ) → Result State → OpenLog
added_by log step (refused n) = log
added_by log step (given state) = record { state = write_state state; steps = log.steps ++ step ∷ [] }

added-with : (log : OpenLog) (step : List ℕ) (r : Result State) (memory : List ℕ) → added_by log step r ≡ added log step (answer_state r memory).0 (answer_state r memory).1
unfolding added answer_state
added-with log step (refused n) memory = refl
added-with log step (given state) memory = ap (λ (w : List ℕ). record { state = w; steps = log.steps ++ step ∷ [] }) (sym (written_front (write_state state) memory))

-- what a call hands over to be kept are bytes
abbrev pub BytesGiven : Call → Type 0
BytesGiven (adding step memory) = Bytes step
BytesGiven (looking out) = Unit {0}
BytesGiven (deciding other buffer work) = Unit {0}
BytesGiven (closing last) = Unit {0}

-- ════ the state is the replay of the steps taken

-- an open log whose first form stands in these bytes: its steps' records are those of steps that lead from the first form to the form in the state
pub record IsReplay (table form : List ℕ) (log : OpenLog) : Type 0 where
  pub first : Form
  pub steps : List Step
  pub reached : Form
  pub derives : Derives table first steps reached
  pub first_written : write_form first ≡ form
  pub first_bytes : Bytes form
  pub steps_bytes : All Bytes log.steps
  pub steps_written : map write_step steps ≡ log.steps
  pub state_written : write_state (record { table = table; count = length steps; form = reached }) ≡ log.state

module _ (table form : List ℕ) where
  -- the state of such a log
  abbrev pub state_of : (log : OpenLog) → IsReplay table form log → State
  state_of log r = record { table = table; count = length r.steps; form = r.reached }

  -- it breaks no rule
  pub replay_good : (log : OpenLog) (r : IsReplay table form log) → StateGood (state_of log r)
  replay_good log r = let d = r.derives in record { table = d.table_good; count = d.in_shape.step_count; form = d.in_shape.last_form; letters = d.last_tested }

  -- and is the one that is read
  pub replay_read : (log : OpenLog) (r : IsReplay table form log) → read_state log.state ≡ given (state_of log r)
  replay_read log r = ap read_state (sym r.state_written) ∙ state_read-back (state_of log r) (replay_good log r)

  -- ════ opening

  open-state : (memory : List ℕ) (state : State) → Bytes form → open_tested table form memory ≡ given state → IsReplay table form (record { state = write_state state; steps = [] })
  unfolding open_tested
  open-state memory state bs e =
      let t = tested (test_table table) _ state e in
      past (leb state_bytes (length memory)) 2 _ state t.1 λ l e₁.
      into (take_form table form) _ state e₁ λ first g e₂.
      let w = taken_form table form first bs g in
      subst (λ (s : State). IsReplay table form (record { state = write_state s; steps = [] })) (given_same e₂) (record {
        first = first;
        steps = [];
        reached = first;
        derives = derives_none table first (table_good_lem table t.0) w.in_shape w.letters;
        first_written = w.is_written;
        first_bytes = bs;
        steps_bytes = tt;
        steps_written = refl;
        state_written = refl;
      })

  -- an opening that is not refused leaves the replay of no steps
  pub open-replay : (memory : List ℕ) (log : OpenLog) → Bytes form → opened (open_call table form memory).0 (open_call table form memory).1 ≡ given log → IsReplay table form log
  unfolding open_call
  open-replay memory log bs e =
      let w = opened_with (open_tested table form memory) memory log e in
      subst (IsReplay table form) w.2 (open-state memory w.0 bs w.1)

  -- ════ adding

  -- a step more
  step_more : (log : OpenLog) (r : IsReplay table form log) (s : List ℕ) (step : Step) (reached : Form) → Bytes s → length r.steps < 64
      → read_step s ≡ given step → step_at table r.reached step ≡ given reached
      → IsReplay table form (record { state = write_state (record { table = table; count = length r.steps + 1; form = reached }); steps = log.steps ++ s ∷ [] })
  step_more log r s step reached bs l read takes =
      let o = step_one_record s step bs read in
      let count : length (r.steps ++ step ∷ []) ≡ length r.steps + 1 = length-append r.steps (step ∷ []) in
      record {
        first = r.first;
        steps = r.steps ++ step ∷ [];
        reached = reached;
        derives = derives_more table r.first r.steps r.reached step reached r.derives l takes;
        first_written = r.first_written;
        first_bytes = r.first_bytes;
        steps_bytes = all_append Bytes log.steps (s ∷ []) r.steps_bytes (bs, tt);
        steps_written = map-append write_step r.steps (step ∷ []) ∙ λ i. r.steps_written i ++ o i ∷ [];
        state_written = ap (λ (n : ℕ). write_state (record { table = table; count = n; form = reached })) count;
      }

  add_state : (log : OpenLog) (r : IsReplay table form log) (s : List ℕ) (state : State) → Bytes s → add_to (state_of log r) s ≡ given state
      → IsReplay table form (record { state = write_state state; steps = log.steps ++ s ∷ [] })
  unfolding add_to step_from
  add_state log r s state bs e =
      past (ltb (length r.steps) 64) 14 _ state e λ l e₁.
      into (step_from table r.reached s) _ state e₁ λ reached e₂ e₃.
      into (read_step s) (λ step. step_at table r.reached step) reached e₂ λ step read takes.
      subst (λ (t : State). IsReplay table form (record { state = write_state t; steps = log.steps ++ s ∷ [] })) (given_same e₃)
      (step_more log r s step reached bs (ltb→lt (length r.steps) 64 l) read takes)

  -- adding leaves the replay of the steps taken, whether or not the step is refused
  pub add-replay : (log : OpenLog) (step memory : List ℕ) → Bytes step → IsReplay table form log
      → IsReplay table form (added log step (add_call log.state step memory).0 (add_call log.state step memory).1)
  unfolding add_call
  add-replay log step memory bs r =
      subst (IsReplay table form) (added-with log step (add_tested log.state step memory) memory) (go (add_tested log.state step memory) refl)
    where
      go : (t : Result State) → add_tested log.state step memory ≡ t → IsReplay table form (added_by log step t)
      go (refused n) e = r
      go (given state) e = unfold add_tested in (
          into (read_state log.state) _ state e λ before e₁ e₂.
          past (leb state_bytes (length memory)) 2 _ state e₂ λ l e₃.
          let same : before ≡ state_of log r = given_same (sym e₁ ∙ replay_read log r) in
          add_state log r step state bs (ap (λ (s : State). add_to s step) (sym same) ∙ e₃))

  -- ════ every list of calls

  close-replay : (answer : Test) (log rest : OpenLog) → IsReplay table form log → IsReplay table form rest → IsReplay table form (closed answer log rest)
  unfolding closed
  close-replay (refused n) log rest r q = q
  close-replay (given u) log rest r q = r

  -- whatever the calls, the state is the replay of the steps taken
  pub run-replay : (log : OpenLog) (calls : List Call) → All BytesGiven calls → IsReplay table form log → IsReplay table form (run log calls)
  unfolding run
  run-replay log [] bs r = r
  run-replay log (adding step memory ∷ cs) bs r =
      run-replay (added log step (add_call log.state step memory).0 (add_call log.state step memory).1) cs bs.1 (add-replay log step memory bs.0 r)
  run-replay log (looking out ∷ cs) bs r = run-replay log cs bs.1 r
  run-replay log (deciding other buffer work ∷ cs) bs r = run-replay log cs bs.1 r
  run-replay log (closing last ∷ cs) bs r = close-replay (close_call log.state last) log (run log cs) r (run-replay log cs bs.1 r)

  -- K5: for every list of calls after an opening, the state is the replay of the steps taken
  pub calls-replay : (memory : List ℕ) (log : OpenLog) (calls : List Call) → Bytes form → All BytesGiven calls
      → opened (open_call table form memory).0 (open_call table form memory).1 ≡ given log → IsReplay table form (run log calls)
  calls-replay memory log calls fs cs e = run-replay log calls cs (open-replay memory log fs e)

  -- so the steps that were taken lead from the first form to one, and the state has the table, their number and that form
  is_replayed : (log : OpenLog) → IsReplay table form log → Replayed table form log
  is_replayed log r =
      let d = r.derives in
      record {
        first = r.first;
        steps = r.steps;
        reached = r.reached;
        is_first = subst (λ (s : List ℕ). take_form table s ≡ given r.first) r.first_written (form_taken_lem table r.first d.in_shape.first_form d.first_tested);
        are_steps = r.steps_written;
        reaches = d.reaches;
        is_state = r.state_written;
      }

  pub calls-replayed : (memory : List ℕ) (log : OpenLog) (calls : List Call) → Bytes form → All BytesGiven calls
      → opened (open_call table form memory).0 (open_call table form memory).1 ≡ given log → Replayed table form (run log calls)
  calls-replayed memory log calls fs cs e = is_replayed (run log calls) (calls-replay memory log calls fs cs e)
