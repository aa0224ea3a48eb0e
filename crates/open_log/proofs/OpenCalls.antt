-- The calls on the bytes of a state: their tests one after the other, and what is written. Assumes nothing.
use mathlib.Core.Path.{◌≡◌, refl, ap, sym, ◌∙◌, subst}
use mathlib.Core.Bool.{Bool, true, false}
use mathlib.Core.List.{List}
use Prim.Native.Nat.{ℕ, ◌+◌, ◌≤◌, ◌<◌}
use lib.ListN.{length, get_or, take}
use borrow.Author.Tests.{le-leb, lt-leb}
use Rattle.std.specs.Prelude.{Ok, Err}
use Rattle.std.specs.Prelude as Std
use Rattle.specification.specs.Results.{Result, refused, given, require}
use Rattle.specification.specs.Letters.{test_table}
use Rattle.specification.specs.Records.{form_bytes, answer_form, take_form}
use Rattle.specification.specs.Logs.{same_form}
use Rattle.specification.specs.Decision.{DecidedBy, Decided}
use Rattle.specification.specs.OpenLogs.{state_bytes, state_table, read_state, decide_open_tested, DecidedOpen}
use Rattle.specification.specs.OpenLogs.{answer_state, open_tested, open_call, add_to, add_tested, add_call, look_tested, look_call, close_at, close_call}
use Rattle.specification.specs.OpenLogs as O
use Rattle.theory.specs.Shape.Letters.{good_short, table_good_lem}
use Rattle.theory.proofs.OpenLogs.States.{state_read}
use Rattle.theory.proofs.OpenLogs.Deciding.{open-decided}
use Rattle.refusal.specs.declared.Refusal.{Refusal}
use Rattle.refusal.specs.declared.Refusal.TheVariants.{NoRoom, OtherForm}
use Rattle.refusal.specs.Numbers.{number_of}
use Rattle.refusal.specs.Tests.{test_of}
use Rattle.terms.specs.declared.types.Form.{Form}
use Rattle.terms.specs.Abstraction.{form_of}
use Rattle.terms.specs.Valid.{Gives}
use Rattle.terms.proofs.Outcomes.{worked_given, worked_refused}
use Rattle.forms.specs.Written.{FormWritten}
use Rattle.decision.specs.declared.Decision.{Decision}
use Rattle.decision.specs.declared.Decision.TheVariants as decided
use Rattle.decision.specs.Answers.{decision_of}
use Rattle.open_log.specs.declared.state.State.{State}
use Rattle.open_log.specs.declared.adding.Added.{Added}
use Rattle.open_log.specs.States.{state_of, state_read_of, StateReadAs, StateWritten}
use Rattle.open_log.specs.Added.{AddedAs}
use Rattle.open_log.specs.Answers.{answered_of, closed_of}
use Rattle.open_log.proofs.Additions.{stood_refused, stood_given}
use Rattle.open_log.proofs.StateBytes.{part, rest, part_is, rest-is}

-- ════ an answer

-- refused: the memory stands
state_refused : (r : Result O.State) (e : Refusal) (out : List ℕ) → r ≡ refused (number_of e) → (answered_of (Err e), out) ≡ answer_state r out
unfolding answer_state
state_refused r e out h = rw h

-- written
state-answered : (r : Result O.State) (state : O.State) (k : ℕ) (out out' : List ℕ) → r ≡ given state → StateWritten out out' k state → (answered_of (Ok k), out') ≡ answer_state r out
unfolding answer_state
state-answered r state k out out' e w = (λ i. (given (w.ends i), w.bytes i)) ∙ ap (λ (r : Result O.State). answer_state r out) (sym e)

-- ════ the state read

module _ (s : List ℕ) where
  unread : {e : Refusal} → StateReadAs (read_state s) (Err e) → read_state s ≡ refused (number_of e)
  unfolding state_read_of
  unread h = sym h.is

  is_read_lem : {q : State} → StateReadAs (read_state s) (Ok q) → read_state s ≡ given (state_of q)
  unfolding state_read_of
  is_read_lem h = sym h.is

  -- ════ adding

  module _ (step out : List ℕ) where
    pub add-unread : (e : Refusal) → StateReadAs (read_state s) (Err e) → (answered_of (Err e), out) ≡ add_call s step out
    unfolding add_call add_tested
    add-unread e h = state_refused (add_tested s step out) e out (rw (unread h))

    module _ (q : State) (ok : StateReadAs (read_state s) (Ok q)) where
      pub add_short : length out < state_bytes → (answered_of (Err NoRoom), out) ≡ add_call s step out
      unfolding add_call add_tested
      add_short l = state_refused (add_tested s step out) NoRoom out (simp (is_read_lem ok, lt-leb state_bytes (length out) l))

      module _ (l : state_bytes ≤ length out) (a : Added) (added : AddedAs (state_of q) step a) where
        added_is : add_tested s step out ≡ add_to (state_of q) step
        unfolding add_tested
        added_is = simp (is_read_lem ok, le-leb state_bytes (length out) l)

        pub add-fails : (e : Refusal) → a.answer ≡ Err e → (answered_of (Err e), out) ≡ add_call s step out
        unfolding add_call
        add-fails e h =
            let p = stood_refused (state_of q) (state_of a.state) (add_to (state_of q) step) (number_of e)
            (ap (λ (x : Std.Result (Unit {0}) Refusal). (test_of x, state_of a.state)) (sym h) ∙ added.is) in
            state_refused (add_tested s step out) e out (added_is ∙ p)

        pub add-writes : (u : Unit {0}) → a.answer ≡ Ok u → (k : ℕ) (out' : List ℕ) → StateWritten out out' k (state_of a.state) → (answered_of (Ok k), out') ≡ add_call s step out
        unfolding add_call
        add-writes u h k out' w =
            let e = stood_given (state_of q) (state_of a.state) (add_to (state_of q) step)
            (ap (λ (x : Std.Result (Unit {0}) Refusal). (test_of x, state_of a.state)) (sym h) ∙ added.is) in
            state-answered (add_tested s step out) (state_of a.state) k out out' (added_is ∙ e) w

  -- ════ looking

  module _ (out : List ℕ) where
    pub look-unread : (e : Refusal) → StateReadAs (read_state s) (Err e) → (answered_of (Err e), out) ≡ look_call s out
    unfolding look_call look_tested answer_form
    look-unread e h = rw (unread h)

    module _ (q : State) (ok : StateReadAs (read_state s) (Ok q)) where
      pub look-short : length out < form_bytes → (answered_of (Err NoRoom), out) ≡ look_call s out
      unfolding look_call look_tested answer_form
      look-short l = simp (is_read_lem ok, lt-leb form_bytes (length out) l)

      pub look-writes : form_bytes ≤ length out → (k : ℕ) (out' : List ℕ) → FormWritten out out' k (form_of q.form) → (answered_of (Ok k), out') ≡ look_call s out
      unfolding look_call look_tested answer_form state_of
      look-writes l k out' w = (λ i. (given (w.ends i), w.bytes i)) ∙ simp (is_read_lem ok, le-leb form_bytes (length out) l)

  -- ════ deciding

  module _ (form buffer work : List ℕ) where
    pub decide-unread : (e : Refusal) → StateReadAs (read_state s) (Err e) → DecidedOpen s form buffer work (decision_of (decided.Refused e)) buffer work
    unfolding DecidedOpen decide_open_tested decision_of DecidedBy
    decide-unread e h = rw (unread h) (refl, record { buffer_stands = refl; work_stands = refl })

    module _ (q : State) (ok : StateReadAs (read_state s) (Ok q)) where
      -- the table and the form's record are parts of the bytes
      pub parts-fit : get_or s 0 0 + 2 ≤ length s
      parts-fit = (state_read s (state_of q) (is_read_lem ok)).fits

      pub decide-parts : (d : Decision) (buffer' work' : List ℕ) → Decided (part s parts-fit) (rest s parts-fit) form buffer work (decision_of d) buffer' work'
          → DecidedOpen s form buffer work (decision_of d) buffer' work'
      decide-parts d buffer' work' h =
          open-decided s form buffer work (decision_of d) buffer' work' (state_of q) (is_read_lem ok)
          (subst (λ (r : List ℕ). Decided (state_table s) r form buffer work (decision_of d) buffer' work') (rest-is s parts-fit)
          (subst (λ (t : List ℕ). Decided t (rest s parts-fit) form buffer work (decision_of d) buffer' work') (part_is s parts-fit) h))

  -- ════ closing

  module _ (form : List ℕ) where
    pub close-unread : (e : Refusal) → StateReadAs (read_state s) (Err e) → closed_of (Err e) ≡ close_call s form
    unfolding close_call
    close-unread e h = rw (unread h)

    module _ (q : State) (ok : StateReadAs (read_state s) (Ok q)) where
      close_is : close_call s form ≡ close_at (state_of q) form
      unfolding close_call
      close_is = rw (is_read_lem ok)

      pub close-not_taken : (e : Refusal) → Gives (take_form (take q.letters q.table) form) (Err e) → closed_of (Err e) ≡ close_call s form
      unfolding close_at state_of
      close-not_taken e t = sym (close_is ∙ rw (worked_refused _ e t))

      module _ (f : Form) (t : Gives (take_form (take q.letters q.table) form) (Ok f)) where
        close-by : close_call s form ≡ (require (same_form (form_of f) (form_of q.form)) 13)
        unfolding close_at state_of
        close-by = close_is ∙ rw (worked_given _ f t)

        pub close-differs : (b : Bool) → b ≡ same_form (form_of f) (form_of q.form) → b ≡ false → closed_of (Err OtherForm) ≡ close_call s form
        close-differs b e h = sym (close-by ∙ rw (sym e ∙ h))

        pub close-accepts : (b : Bool) → b ≡ same_form (form_of f) (form_of q.form) → b ≡ true → closed_of (Ok tt) ≡ close_call s form
        close-accepts b e h = sym (close-by ∙ rw (sym e ∙ h))

-- ════ opening

module _ (table form out : List ℕ) where
  pub open-bad : (e : Refusal) → test_of (Err e) ≡ test_table table → (answered_of (Err e), out) ≡ open_call table form out
  unfolding open_call open_tested
  open-bad e h = state_refused (open_tested table form out) e out (rw (← h))

  module _ (u : Unit {0}) (tested : test_of (Ok u) ≡ test_table table) where
    -- a table that passes its test is no longer than an array for one
    pub table_short : length table ≤ 24
    table_short = good_short table (table_good_lem table (sym tested))

    pub open_short : length out < state_bytes → (answered_of (Err NoRoom), out) ≡ open_call table form out
    unfolding open_call open_tested
    open_short l = state_refused (open_tested table form out) NoRoom out (simp (sym tested, lt-leb state_bytes (length out) l))

    module _ (l : state_bytes ≤ length out) where
      pub open-not_taken : (e : Refusal) → Gives (take_form table form) (Err e) → (answered_of (Err e), out) ≡ open_call table form out
      unfolding open_call open_tested
      open-not_taken e t = state_refused (open_tested table form out) e out (simp (sym tested, le-leb state_bytes (length out) l, worked_refused _ e t))

      pub open-writes : (f : Form) → Gives (take_form table form) (Ok f) → (letters : List ℕ) → take (length table) letters ≡ table → (k : ℕ) (out' : List ℕ)
          → StateWritten out out' k (state_of (record { letters = length table; table = letters; count = 0; form = f })) → (answered_of (Ok k), out') ≡ open_call table form out
      unfolding open_call open_tested state_of
      open-writes f t letters copied k out' written =
          state-answered (open_tested table form out) _ k out out' (simp (sym tested, le-leb state_bytes (length out) l, worked_given _ f t, copied)) written
