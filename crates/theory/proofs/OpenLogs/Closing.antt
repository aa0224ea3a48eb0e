-- Closing accepts exactly when the checker accepts the whole log: the first form, the steps that were taken, and the last form, whatever bytes that is. Assumes nothing.
use Rattle.std.specs.Prelude.{◌≡◌, ℕ, ◌+◌, ◌<◌}
use Rattle.std.proofs.Math.Path.{ap}
use Rattle.std.proofs.Common.{sym, ◌∙◌, subst, arith}
use mathlib.Core.List.{List, [], ◌∷◌, ◌++◌}
use Rattle.std.proofs.Math.ListN.{length}
use Rattle.std.proofs.lemmas.List.{length-map}
use Rattle.specification.specs.Lists.{joined}
use Rattle.specification.specs.Results.{given, ◌>>=◌}
use Rattle.specification.specs.Terms.{Form}
use Rattle.specification.specs.Records.{write_form, take_form}
use Rattle.specification.specs.Logs.{write_step, write_steps, write_log, same_form, accepted, take_steps, check_call}
use Rattle.specification.specs.OpenLogs.{State, open_call, close_at, close_call, Call, OpenLog, opened, run, whole_log}
use Rattle.theory.specs.Tests.{given_same, passed, into}
use Rattle.theory.specs.Elements.{All, all_append}
use Rattle.theory.specs.Records.Positions.{Bytes}
use Rattle.theory.proofs.Records.Logs.{log_one_split}
use Rattle.theory.proofs.Replay.Accepted.{Derives, same_form_eq, same_form_same, derivation-accepted, accepted-derives}
use Rattle.theory.proofs.OpenLogs.States.{form_taken_lem, taken_form}
use Rattle.theory.proofs.OpenLogs.Calls.{IsReplay, BytesGiven, state_of, replay_read, calls-replay}

-- closing with these bytes accepts exactly when the checker accepts the whole log with them
pub record ClosesExactly (table form : List ℕ) (log : OpenLog) (last : List ℕ) : Type 0 where
  pub accepts : close_call log.state last ≡ given tt
      → check_call table (whole_log form log.steps last) ≡ accepted (length form) (length form + 1 + length (joined log.steps)) (length log.steps)
  pub only_then : (a b n : ℕ) → check_call table (whole_log form log.steps last) ≡ accepted a b n → close_call log.state last ≡ given tt

-- records of bytes, one behind the other, are bytes
bytes-joined : (ss : List (List ℕ)) → All Bytes ss → Bytes (joined ss)
unfolding joined
bytes-joined [] h = tt
bytes-joined (s ∷ ss) h = all_append (λ (b : ℕ). b < 256) s (joined ss) h.0 (bytes-joined ss h.1)

module _ (table form : List ℕ) (log : OpenLog) (r : IsReplay table form log) where
  -- as many records as steps
  counted : length r.steps ≡ length log.steps
  counted = sym (length-map r.steps write_step) ∙ ap length r.steps_written

  -- the whole log, by the forms and steps whose records it has
  whole_written : (last : List ℕ) → write_form r.first ++ length r.steps ∷ write_steps r.steps ++ last ≡ whole_log form log.steps last
  unfolding whole_log write_steps
  whole_written last = λ i. r.first_written i ++ counted i ∷ joined (r.steps_written i) ++ last

  -- it has bytes only
  whole-bytes : (last : List ℕ) → Bytes last → Bytes (whole_log form log.steps last)
  unfolding whole_log
  whole-bytes last bs =
      let small : length log.steps < 256 = omega (arith, counted, r.derives.in_shape.step_count) in
      all_append (λ (b : ℕ). b < 256) (form ++ length log.steps ∷ joined log.steps) last
      (all_append (λ (b : ℕ). b < 256) form (length log.steps ∷ joined log.steps) r.first_bytes (small, bytes-joined log.steps r.steps_bytes)) bs

  -- closing is at the state that the replay gives
  close_at_lem : (last : List ℕ) → close_call log.state last ≡ close_at (state_of table form log r) last
  unfolding close_call
  close_at_lem last = ap (λ s. s >>= λ (state : State). close_at state last) (replay_read table form log r)

  closing-accepted : (last : List ℕ) → Bytes last → close_at (state_of table form log r) last ≡ given tt
      → check_call table (whole_log form log.steps last) ≡ accepted (length form) (length form + 1 + length (joined log.steps)) (length log.steps)
  unfolding close_at write_log write_steps
  closing-accepted last bs e =
      into (take_form table last) _ tt e λ f taken same.
      let q : f ≡ r.reached = same_form_eq f r.reached (passed (same_form f r.reached) 13 same) in
      let t = taken_form table last f bs taken in
      let log_is : write_log r.first r.steps f ≡ whole_log form log.steps last =
      ap (λ (w : List ℕ). write_form r.first ++ length r.steps ∷ write_steps r.steps ++ w) t.is_written ∙ whole_written last in
      ap (check_call table) (sym log_is) ∙ derivation-accepted table r.first r.steps f (subst (Derives table r.first r.steps) (sym q) r.derives)
      ∙ λ i. accepted (length (r.first_written i)) (length (r.first_written i) + 1 + length (joined (r.steps_written i))) (counted i)

  accepted-closing : (last : List ℕ) → Bytes last → (a b n : ℕ) → check_call table (whole_log form log.steps last) ≡ accepted a b n → close_at (state_of table form log r) last ≡ given tt
  unfolding close_at
  accepted-closing last bs a b n e =
      let w = accepted-derives table (whole_log form log.steps last) a b n (whole-bytes last bs) e in
      let d = w.derives in
      let shape = r.derives.in_shape in
      let p = log_one_split r.first r.steps last w.first w.steps w.last shape.first_form shape.step_count shape.every_step d.in_shape
      (whole_written last ∙ w.is_written) in
      let q : r.reached ≡ w.last = given_same (sym r.derives.reaches ∙ (λ i. take_steps (p.same_first i) (p.same_steps i)) ∙ d.reaches) in
      let t : take_form table last ≡ given w.last = ap (take_form table) p.follows ∙ form_taken_lem table w.last d.in_shape.last_form d.last_tested in
      simp (t, q, same_form_same w.last)

  -- of an open log whose state is the replay of its steps
  pub replay-closes : (last : List ℕ) → Bytes last → ClosesExactly table form log last
  replay-closes last bs = record {
    accepts = λ e. closing-accepted last bs (sym (close_at_lem last) ∙ e);
    only_then = λ a b n e. close_at_lem last ∙ accepted-closing last bs a b n e;
  }

-- K5: for every list of calls after an opening, closing accepts exactly when the checker accepts the first form, the steps that were taken, and the last form
pub calls-close : (table form memory : List ℕ) (log : OpenLog) (calls : List Call) (last : List ℕ) → Bytes form → All BytesGiven calls → Bytes last
    → opened (open_call table form memory).0 (open_call table form memory).1 ≡ given log → ClosesExactly table form (run log calls) last
calls-close table form memory log calls last fs cs ls e =
    replay-closes table form (run log calls) (calls-replay table form memory log calls fs cs e) last ls
