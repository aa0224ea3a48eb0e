-- How long records are at most (P3): those of forms, steps and logs. Assumes nothing.
use Rattle.std.specs.Prelude.{◌≡◌, Bool, true, false, List, [], ◌∷◌, ◌++◌, map, ℕ, ◌+◌, ◌*◌, ◌≤◌, T, leb, length}
use Rattle.std.proofs.Common.{ap, suc-mul, arith, length-append}
use Rattle.std.proofs.lemmas.List.{length-map}
use Rattle.specification.specs.Lists.{joined}
use Rattle.specification.specs.Results.{given, when◌then◌else◌}
use Rattle.specification.specs.Terms.{Term, Form, term_in_shape}
use Rattle.specification.specs.Records.{form_bytes, write_term, write_form}
use Rattle.specification.specs.Rules.{Step, rule_letters, step_in_shape}
use Rattle.specification.specs.Logs.{write_step, write_steps, write_log, log_bytes, Log, read_log}
use Rattle.specification.specs.Shortening.{shortening_bytes}
use Rattle.theory.specs.Elements.{All, all_map, all_T}
use Rattle.theory.specs.Shape.Forms.{FormInShape}
use Rattle.theory.proofs.Rules.Steps.{step-opens}
use Rattle.theory.specs.Records.Positions.{Bytes}
use Rattle.theory.specs.Records.Terms.{term_short}
use Rattle.theory.proofs.Records.Logs.{LogInShape, log_one_record}

-- lists that are each no longer than k
joined_short : (k : ℕ) (xss : List (List ℕ)) → All (λ (xs : List ℕ). length xs ≤ k) xss → length (joined xss) ≤ length xss * k
unfolding joined
joined_short k [] h = omega arith
joined_short k (xs ∷ xss) h =
    omega (arith, length-append xs (joined xss), suc-mul (length xss) k, h.0, joined_short k xss h.1)

-- records that are each no longer than k
pub records_short : {A : Type 0} (P : A → Type 0) (write : A → List ℕ) (k : ℕ) → ((x : A) → P x → length (write x) ≤ k) → (xs : List A) → All P xs
    → length (joined (map write xs)) ≤ length xs * k
records_short P write k short xs h =
    rw (← length-map xs write) (joined_short k (map write xs) (all_map P (λ (b : List ℕ). length b ≤ k) write short xs h))

-- ════ forms

-- the record of a form, by its terms
pub form-within : (f : Form) → FormInShape f → length (write_form f) ≤ 2 + length f.terms * 16
unfolding write_form
form-within f h =
    omega (arith, records_short (λ (t : Term). T (term_in_shape t)) write_term 16 term_short f.terms (all_T term_in_shape f.terms h.terms))

-- P3: no record of a form is longer than 770 bytes
pub form_short : (f : Form) → FormInShape f → length (write_form f) ≤ form_bytes
form_short f h = omega (arith, form-within f h, h.count)

-- ════ logs

-- no rule has more than six letters
pub letters-few : (rule : ℕ) → rule_letters rule ≤ 6
unfolding rule_letters
letters-few rule = go (leb rule 2) (leb rule 4)
  where
    go : (a b : Bool) → (when a then 4 else when b then 5 else 6) ≤ 6
    go true b = omega arith
    go false true = omega arith
    go false false = omega arith

-- the record of a step has at most 23 bytes
step_short : (st : Step) → T (step_in_shape st) → length (write_step st) ≤ 23
unfolding write_step
step_short st h =
    let o = step-opens st h in
    omega (arith, length-append st.letters (write_term st.m), o.long, letters-few st.rule, term_short st.m o.m)

-- a log by its steps and the terms of its last form
log_within : (first : Form) (steps : List Step) (last : Form) → LogInShape first steps last
    → length (write_log first steps last) ≤ form_bytes + 1 + length steps * 23 + (2 + length last.terms * 16)
unfolding write_log write_steps
log_within first steps last h =
    let u = write_form first in
    let v = length steps ∷ write_steps steps in
    let w = write_form last in
    omega (
      arith,
      length-append (u ++ v) w,
      length-append u v,
      form_short first h.first_form,
      records_short (λ (st : Step). T (step_in_shape st)) write_step 23 step_short steps h.every_step,
      form-within last h.last_form,
    )

-- "at most 3,013 bytes": no log in shape is longer
pub log_short : (first : Form) (steps : List Step) (last : Form) → LogInShape first steps last → length (write_log first steps last) ≤ log_bytes
log_short first steps last h = omega (arith, log_within first steps last h, h.step_count, h.last_form.count)

-- nor are bytes that are read as a log
pub log_bytes_short : (s : List ℕ) (log : Log) → Bytes s → read_log s ≡ given log → length s ≤ log_bytes
log_bytes_short s log bs e =
    let o = log_one_record s log bs e in
    omega (arith, ap length o.is_written, log_short log.first log.steps log.last o.in_shape)

-- a log whose steps and last terms are at most 48 fits into the memory that shortening is lent
pub saving-log_short : (first : Form) (steps : List Step) (last : Form) → LogInShape first steps last → length steps + length last.terms ≤ 48
    → length (write_log first steps last) ≤ shortening_bytes
saving-log_short first steps last h few = omega (arith, log_within first steps last h)
