-- The state of an open log: it is read back from its bytes, bytes that are read are those that are written, and none is longer than 796; the states that
-- opening and adding give. Assumes nothing.
use Rattle.std.specs.Prelude.{◌≡◌, true, List, [], ◌∷◌, ◌++◌, ℕ, suc, ◌+◌, ◌≤◌, ◌<◌, length, get_or, take, drop, T, ltb, leb}
use Rattle.std.proofs.Math.Path.{refl, ap}
use Rattle.std.proofs.Common.{sym, ◌∙◌, subst, arith, length-take, length-drop, take-append-drop, drop-cons, drop-drop, ltb→lt, leb→le}
use Rattle.std.proofs.Math.ListN.{length-append}
use Rattle.std.proofs.Math.Seq.{append_snoc, drop_at, get_or_at, take_at}
use borrow.Author.Tests.{le-leb}
use Rattle.specification.specs.Results.{Result, refused, given}
use Rattle.specification.specs.Letters.{good_table, test_table}
use Rattle.specification.specs.Terms.{Form}
use Rattle.specification.specs.Records.{write_form, test_terms, take_form}
use Rattle.specification.specs.Rules.{Step, step_at}
use Rattle.specification.specs.OpenLogs.{state_bytes, State, write_state, state_table, state_count, state_form, else_shape, read_state}
use Rattle.specification.specs.OpenLogs.{open_tested, read_step, step_from, add_to}
use Rattle.theory.specs.Tests.{is_true, refused≢given, given_same, past, into, tested}
use Rattle.theory.specs.Elements.{all_split}
use Rattle.theory.specs.Shape.Letters.{good_short, table_good_lem}
use Rattle.theory.specs.Shape.Forms.{FormInShape}
use Rattle.theory.specs.Records.Positions.{Bytes}
use Rattle.theory.specs.Records.Forms.{form-read_back, form_one_record}
use Rattle.theory.proofs.Records.Lengths.{form_short}
use Rattle.theory.specs.Records.Taken.{taken_so}

-- ════ a form taken

-- what bytes that are taken as a form say
pub record FormTakenWhole (table s : List ℕ) (f : Form) : Type 0 where
  pub in_shape : FormInShape f
  pub letters : test_terms table f.terms ≡ given tt
  pub is_written : write_form f ≡ s

-- a form in shape whose letters are in the table is taken from its record
pub form_taken_lem : (table : List ℕ) (f : Form) → FormInShape f → test_terms table f.terms ≡ given tt → take_form table (write_form f) ≡ given f
unfolding take_form
form_taken_lem table f shape letters = simp (form-read_back f shape, letters)

-- and bytes from which a form is taken are its record
pub taken_form : (table s : List ℕ) (f : Form) → Bytes s → take_form table s ≡ given f → FormTakenWhole table s f
taken_form table s f bs e =
    let t = taken_so table s f e in
    let o = form_one_record s f bs t.is_read in
    record { in_shape = o.in_shape; letters = t.letters_tested; is_written = o.is_written }

-- ════ the state's bytes

-- the state breaks no rule
pub record StateGood (state : State) : Type 0 where
  pub table : T (good_table state.table)
  pub count : state.count ≤ 64
  pub form : FormInShape state.form
  pub letters : test_terms state.table state.form.terms ≡ given tt

module _ (state : State) where
  pub table_written : state_table (write_state state) ≡ state.table
  unfolding state_table write_state
  table_written = take_at state.table (state.count ∷ write_form state.form) (length state.table) refl

  pub count_written : state_count (write_state state) ≡ state.count
  unfolding state_count write_state
  count_written = get_or_at (length state.table ∷ state.table) state.count (write_form state.form) 0 (length state.table + 1) (omega arith)

  pub form_written : state_form (write_state state) ≡ write_form state.form
  unfolding state_form write_state
  form_written =
      ap (drop (length state.table + 2)) (sym (append_snoc (length state.table ∷ state.table) state.count (write_form state.form)))
      ∙ drop_at ((length state.table ∷ state.table) ++ state.count ∷ []) (write_form state.form) (length state.table + 2) (simp length-append (omega arith))

  all_there : leb (get_or (write_state state) 0 0 + 2) (length (write_state state)) ≡ true
  unfolding write_state
  all_there = le-leb (length state.table + 2) _ (simp length-append (omega arith))

-- no state is longer than 796 bytes
pub state_short : (state : State) → StateGood state → length (write_state state) ≤ state_bytes
unfolding write_state
state_short state h = simp length-append (omega (arith, good_short state.table h.table, form_short state.form h.form))

-- reading what was written gives the state
pub state_read-back : (state : State) → StateGood state → read_state (write_state state) ≡ given state
unfolding read_state else_shape
state_read-back state h =
    simp (
      all_there state,
      table_written state,
      count_written state,
      form_written state,
      is_true (good_table state.table) h.table,
      le-leb state.count 64 h.count,
      form_taken_lem state.table state.form h.form h.letters,
    )

-- ════ bytes that are read

-- what is left of bytes are bytes
bytes_drop : (n : ℕ) (s : List ℕ) → Bytes s → Bytes (drop n s)
bytes_drop n s bs = (all_split (λ (b : ℕ). b < 256) (take n s) (drop n s) (subst Bytes (sym (take-append-drop n s)) bs)).1

-- a test whose refusals are all 11
shaped : {A : Type 0} (r : Result A) (a : A) → else_shape r ≡ given a → r ≡ given a
unfolding else_shape
shaped (refused n) a e = absurd (refused≢given e)
shaped (given b) a e = e

-- what bytes that are read as a state hold
pub record StateRead (s : List ℕ) (state : State) : Type 0 where
  pub fits : get_or s 0 0 + 2 ≤ length s
  pub table : T (good_table (state_table s))
  pub count : state_count s ≤ 64
  pub form : take_form (state_table s) (state_form s) ≡ given state.form
  pub is : record { table = state_table s; count = state_count s; form = state.form } ≡ state

pub state_read : (s : List ℕ) (state : State) → read_state s ≡ given state → StateRead s state
unfolding read_state
state_read s state e =
    past (leb (get_or s 0 0 + 2) (length s)) 11 _ state e λ l e₁.
    past (good_table (state_table s)) 11 _ state e₁ λ good e₂.
    past (leb (state_count s) 64) 11 _ state e₂ λ few e₃.
    into (else_shape (take_form (state_table s) (state_form s))) _ state e₃ λ f g e₄.
    subst (StateRead s) (given_same e₄) (record {
      fits = leb→le (get_or s 0 0 + 2) (length s) l;
      table = good;
      count = leb→le (state_count s) 64 few;
      form = shaped (take_form (state_table s) (state_form s)) f g;
      is = refl;
    })

-- the bytes put together from the table, the count and the form's record
parts-together : (s : List ℕ) → get_or s 0 0 + 2 ≤ length s → (length (state_table s) ∷ state_table s) ++ state_count s ∷ state_form s ≡ s
unfolding state_table state_count state_form
parts-together s l =
    let n = get_or s 0 0 in
    let long : length (take n (drop 1 s)) ≡ n = simp (length-take, length-drop) (omega arith) in
    let e : suc (n + 1) ≡ n + 2 = omega arith in
    let f : n + 1 ≡ 1 + n = omega arith in
    let behind : get_or s (n + 1) 0 ∷ drop (n + 2) s ≡ drop n (drop 1 s) =
    rw (← e) (sym (drop-cons s (n + 1) 0 (omega arith)) ∙ ap (λ (k : ℕ). drop k s) f ∙ sym (drop-drop n 1 s)) in
    (λ i. (long i ∷ take n (drop 1 s)) ++ behind i) ∙ ap (λ (l : List ℕ). n ∷ l) (take-append-drop n (drop 1 s)) ∙ sym (drop-cons s 0 0 (omega arith))

-- what bytes that are read as a state say
pub record StateOf (s : List ℕ) (state : State) : Type 0 where
  pub good : StateGood state
  pub is_written : write_state state ≡ s

-- writing what was read gives the bytes, and the state breaks no rule; so there is one record for each state
pub state_one_record : (s : List ℕ) (state : State) → Bytes s → read_state s ≡ given state → StateOf s state
unfolding state_form write_state
state_one_record s state bs e =
    let r = state_read s state e in
    let t = taken_form (state_table s) (state_form s) state.form (bytes_drop (get_or s 0 0 + 2) s bs) r.form in
    subst (StateOf s) r.is (record {
      good = record { table = r.table; count = r.count; form = t.in_shape; letters = t.letters };
      is_written = ap (λ (w : List ℕ). (length (state_table s) ∷ state_table s) ++ state_count s ∷ w) t.is_written ∙ parts-together s r.fits;
    })

-- ════ states that the calls give

-- what is known of the state that an opening gives
pub record OpenGives (table form : List ℕ) (state : State) : Type 0 where
  pub first : Form
  pub table_good : T (good_table table)
  pub taken : take_form table form ≡ given first
  pub is : record { table = table; count = 0; form = first } ≡ state

pub open_gives : (table form memory : List ℕ) (state : State) → open_tested table form memory ≡ given state → OpenGives table form state
unfolding open_tested
open_gives table form memory state e =
    let t = tested (test_table table) _ state e in
    past (leb state_bytes (length memory)) 2 _ state t.1 λ l e₁.
    into (take_form table form) _ state e₁ λ first g e₂.
    record { first = first; table_good = table_good_lem table t.0; taken = g; is = given_same e₂ }

-- what is known of the state that a step added gives
pub record AddGives (before : State) (s : List ℕ) (next : State) : Type 0 where
  pub step : Step
  pub reached : Form
  pub few : before.count < 64
  pub is_read : read_step s ≡ given step
  pub takes : step_at before.table before.form step ≡ given reached
  pub is : record { table = before.table; count = before.count + 1; form = reached } ≡ next

pub add-gives : (before : State) (s : List ℕ) (next : State) → add_to before s ≡ given next → AddGives before s next
unfolding add_to step_from
add-gives before s next e =
    past (ltb before.count 64) 14 _ next e λ l e₁.
    into (step_from before.table before.form s) _ next e₁ λ reached e₂ e₃.
    into (read_step s) (λ step. step_at before.table before.form step) reached e₂ λ step read takes.
    record { step = step; reached = reached; few = ltb→lt before.count 64 l; is_read = read; takes = takes; is = given_same e₃ }
