-- What the calls write is never longer than the memory that they ask for. Assumes nothing.
use mathlib.Core.Path.{◌≡◌, refl, subst}
use mathlib.Core.List.{List, []}
use Prim.Native.Nat.{ℕ, ◌≤◌}
use native.Mathlib.Omega.{arith}
use lib.ListN.{length}
use lib.Dec.{ltb, leb, ltb→lt}
use Rattle.specification.specs.Results.{Result, refused, given}
use Rattle.specification.specs.Letters.{test_table}
use Rattle.specification.specs.Terms.{Form}
use Rattle.specification.specs.Records.{form_bytes, answer_form, take_form}
use Rattle.specification.specs.Rules.{Step, step_at}
use Rattle.specification.specs.OpenLogs.{state_bytes, State, read_state, answer_state, open_tested, open_call, read_step, step_from, add_to, add_tested, add_call, look_tested, look_call}
use Rattle.theory.specs.Tests.{refused≢given, given_same, past, into, tested}
use Rattle.theory.specs.Shape.Letters.{table_good_lem}
use Rattle.theory.specs.Shape.Forms.{FormInShape}
use Rattle.theory.specs.Records.Positions.{Bytes}
use Rattle.theory.proofs.Records.Lengths.{form_short}
use Rattle.theory.proofs.Replay.Ends.{derives_none, derives_more}
use Rattle.theory.proofs.OpenLogs.States.{StateGood, state_short, state_one_record, taken_form}

-- ════ states that the calls give

-- an opening gives a state that breaks no rule
open_good : (table form memory : List ℕ) (state : State) → Bytes form → open_tested table form memory ≡ given state → StateGood state
unfolding open_tested
open_good table form memory state bs e =
    let t = tested (test_table table) _ state e in
    past (leb state_bytes (length memory)) 2 _ state t.1 λ l e₁.
    into (take_form table form) _ state e₁ λ first g e₂.
    let w = taken_form table form first bs g in
    subst StateGood (given_same e₂) (record { table = table_good_lem table t.0; count = omega arith; form = w.in_shape; letters = w.letters })

-- and so does a step added to such a state
add_good : (state : State) (step : List ℕ) (next : State) → StateGood state → add_to state step ≡ given next → StateGood next
unfolding add_to step_from
add_good state step next h e =
    past (ltb state.count 64) 14 _ next e λ l e₁.
    into (step_from state.table state.form step) _ next e₁ λ reached e₂ e₃.
    into (read_step step) (λ (s : Step). step_at state.table state.form s) reached e₂ λ s read takes.
    let d = derives_more state.table state.form [] state.form s reached (derives_none state.table state.form h.table h.form h.letters) (omega arith) takes in
    subst StateGood (given_same e₃)
    (record { table = h.table; count = omega (arith, ltb→lt state.count 64 l); form = d.in_shape.last_form; letters = d.last_tested })

-- ════ lengths

-- the length of a state that was given
state-length : (r : Result State) (memory : List ℕ) (n : ℕ) → ((state : State) → r ≡ given state → StateGood state) → (answer_state r memory).0 ≡ given n → n ≤ state_bytes
unfolding answer_state
state-length (refused m) memory n h e = absurd (refused≢given e)
state-length (given state) memory n h e = subst (λ (k : ℕ). k ≤ state_bytes) (given_same e) (state_short state (h state refl))

pub open-length : (table form memory : List ℕ) (n : ℕ) → Bytes form → (open_call table form memory).0 ≡ given n → n ≤ state_bytes
unfolding open_call
open-length table form memory n bs e = state-length (open_tested table form memory) memory n (λ state q. open_good table form memory state bs q) e

pub add_length : (s step memory : List ℕ) (n : ℕ) → Bytes s → (add_call s step memory).0 ≡ given n → n ≤ state_bytes
unfolding add_call add_tested
add_length s step memory n bs e = state-length (add_tested s step memory) memory n good e
  where
    good : (state : State) → add_tested s step memory ≡ given state → StateGood state
    good state q =
        into (read_state s) _ state q λ before e₁ e₂.
        past (leb state_bytes (length memory)) 2 _ state e₂ λ l e₃.
        add_good before step state (state_one_record s before bs e₁).good e₃

pub look-length : (s out : List ℕ) (n : ℕ) → Bytes s → (look_call s out).0 ≡ given n → n ≤ form_bytes
unfolding look_call answer_form look_tested
look-length s out n bs e = go (look_tested s out) refl e
  where
    go : (r : Result Form) → look_tested s out ≡ r → (answer_form r out).0 ≡ given n → n ≤ form_bytes
    go (refused m) q e = absurd (refused≢given e)
    go (given f) q e =
        into (read_state s) _ f q λ state e₁ e₂.
        past (leb form_bytes (length out)) 2 _ f e₂ λ l e₃.
        let shape : FormInShape f = subst FormInShape (given_same e₃) (state_one_record s state bs e₁).good.form in
        subst (λ (k : ℕ). k ≤ form_bytes) (given_same e) (form_short f shape)
