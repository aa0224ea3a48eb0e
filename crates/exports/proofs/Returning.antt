-- What the calls for C return and leave, from the tests that they make. Assumes nothing.
use mathlib.Core.Path.{◌≡◌, refl, ap, sym, ◌∙◌}
use mathlib.Core.List.{List, [], ◌∷◌}
use Prim.Native.Nat.{ℕ, ◌≤◌, ◌<◌, ◌^◌}
use native.Mathlib.Omega.{arith}
use lib.Dec.{leb}
use lib.IntN.{ℤ, pos}
use lib.ListN.{length, set}
use borrow.Author.Tests.{le-leb, lt-leb}
use Rattle.specification.specs.Results.{Result, refused, given, require}
use Rattle.specification.specs.Letters.{test_table}
use Rattle.specification.specs.Values.{Vec}
use Rattle.specification.specs.Reduction.{reduce_call}
use Rattle.specification.specs.Insertion.{insert_call}
use Rattle.specification.specs.Evaluation.{value_call}
use Rattle.specification.specs.Logs.{Checked, refused_at, at_step, check_call}
use Rattle.std.specs.Prelude.{Ok, Err}
use Rattle.std.specs.Prelude as Std
use Rattle.refusal.specs.declared.Refusal.{Refusal}
use Rattle.refusal.specs.Numbers.{number_of}
use Rattle.refusal.specs.Tests.{test_of}
use Rattle.refusal.specs.declared.Refusal.TheVariants.{NoRoom}
use Rattle.logs.specs.declared.steps.RefusedAt.{RefusedAt}
use Rattle.logs.specs.Steps.{found_of}
use Rattle.checker.specs.declared.Accepted.{Accepted}
use Rattle.checker.specs.Answers.{checked_of}
use Rattle.evaluation.specs.declared.vectors.Vector.{Vector}
use Rattle.evaluation.specs.Vectors.{vec_of}
use Rattle.evaluation.specs.Answers.{valued_of}
use Rattle.open_log.specs.Answers.{answered_of}
use Rattle.reduction.proofs.KeptValue.{reduce_keeps_value}
use Rattle.insertion.proofs.KeptValue.{insert_short}
use Rattle.theory.specs.Records.Positions.{Bytes}
use Rattle.theory.specs.Tests.{refused≢given, given_same}
use Rattle.specification.specs.Returns.{returned, handed, three_into, answer_vec, value_tested, value_returned, returned_at, places_into, answer_log}
use Rattle.specification.specs.Returns.{check_returned}

-- ════ three numbers

-- three stores put the three numbers in front
pub three-stores : (l : List ℤ) (v : Vector) (x y z : ℤ) → 3 ≤ length l → x ≡ v.x → y ≡ v.y → z ≡ v.z
    → set (set (set l 0 x) 1 y) 2 z ≡ three_into (vec_of v) l
unfolding three_into vec_of
three-stores [] v x y z h p q r = absurd (omega arith)
three-stores (a ∷ []) v x y z h p q r = absurd (omega arith)
three-stores (a ∷ b ∷ []) v x y z h p q r = absurd (omega arith)
three-stores (a ∷ b ∷ c ∷ l) v x y z h p q r = rw (p, q, r)

-- ════ the value call

module _ (table form s : List ℕ) (values : List ℤ) where
  -- a refusal leaves the memory
  refused_returned : (n : ℕ) (r : ℤ) → r ≡ returned (refused n) → value_tested table form s values ≡ refused n
      → (r, values) ≡ value_returned table form s values
  unfolding value_returned handed answer_vec
  refused_returned n r p q = rw (p, q)

  -- a value is written
  given_returned : (v : Vec) (after : List ℤ) → after ≡ three_into v values → value_tested table form s values ≡ given v
      → (pos 0, after) ≡ value_returned table form s values
  unfolding value_returned handed answer_vec returned
  given_returned v after p q = rw (p, q)

  -- 1 comes first
  pub table-returned : (e : Refusal) → test_of (Err e) ≡ test_table table → (n : ℕ) → n ≡ number_of e → (r : ℤ) → r ≡ returned (refused n) → (r, values) ≡ value_returned table form s values
  unfolding value_tested
  table-returned e h n q r p = refused_returned n r p (rw (← h, q) refl)

  module _ (u : Unit {0}) (passed : test_of (Ok u) ≡ test_table table) where
    -- then 2
    pub short_returned : length values < 3 → (n : ℕ) → n ≡ number_of NoRoom → (r : ℤ) → r ≡ returned (refused n) → (r, values) ≡ value_returned table form s values
    unfolding value_tested
    short_returned h n q r p = refused_returned n r p (rw (← passed, lt-leb 3 (length values) h, q))

    module _ (h : 3 ≤ length values) where
      -- then what the value call says
      called : (a : Std.Result Vector Refusal) → valued_of a ≡ value_call table form s → value_tested table form s values ≡ valued_of a
      unfolding value_tested
      called a contract = rw (← passed, le-leb 3 (length values) h, contract)

      -- a refusal
      pub value_refused : (e : Refusal) → valued_of (Err e) ≡ value_call table form s → (n : ℕ) → n ≡ number_of e → (r : ℤ) → r ≡ returned (refused n)
          → (r, values) ≡ value_returned table form s values
      value_refused e contract n q r p = refused_returned n r p (called (Err e) contract ∙ ap refused (sym q))

      -- or three numbers
      pub value_returned_lem : (v : Vector) → valued_of (Ok v) ≡ value_call table form s → (after : List ℤ) → after ≡ three_into (vec_of v) values
          → (pos 0, after) ≡ value_returned table form s values
      value_returned_lem v contract after p = given_returned (vec_of v) after p (called (Ok v) contract)

-- ════ calls that give a length

-- what is returned of an answer, with the bytes as the call left them
pub handed_as : (call : Result ℕ × List ℕ) (a : Std.Result ℕ Refusal) (after : List ℕ) (r : ℤ) → (answered_of a, after) ≡ call → r ≡ returned (answered_of a) → (r, after) ≡ handed call
unfolding handed
handed_as call a after r contract e = (λ i. (e i, after)) ∙ ap handed contract

-- a length that is given was answered
pub was_given : (a : Std.Result ℕ Refusal) (n : ℕ) → answered_of a ≡ given n → a ≡ Ok n
was_given (Ok m) n g = ap Ok (given_same g)
was_given (Err e) n g = absurd (refused≢given g)

module _ (a : Std.Result ℕ Refusal) (after : List ℕ) (n : ℕ) (g : answered_of a ≡ given n) where
  -- a length fits: of a reduction,
  pub reduce-fits : (table expr out : List ℕ) → (answered_of a, after) ≡ reduce_call table expr out → n < 2 ^ 63
  reduce-fits table expr out contract = omega (arith, (reduce_keeps_value table expr out after a n contract g).short)

  -- of an insertion
  pub insert-fits : (table form : List ℕ) (letter : ℕ) (inserted out : List ℕ) → Bytes form → Bytes inserted → (answered_of a, after) ≡ insert_call table form letter inserted out
      → n < 2 ^ 63
  insert-fits table form letter inserted out bf bi contract = omega (arith, insert_short table form letter inserted out after a bf bi contract n g)

-- ════ the checker's call

module _ (table log places : List ℕ) where
  -- what is tested before the log
  abbrev answer : Checked
  answer = at_step 0 (test_table table) λ _. at_step 0 (require (leb 3 (length places)) 2) λ _. check_call table log

  -- a refusal leaves the memory
  refusal-returned : (n k : ℕ) (r : ℤ) → r ≡ returned_at n k → answer ≡ refused_at n k → (r, places) ≡ check_returned table log places
  unfolding check_returned answer_log
  refusal-returned n k r p q = rw (p, q)

  -- 1 comes first
  pub table_refused : (e : Refusal) → test_of (Err e) ≡ test_table table → (n : ℕ) → n ≡ number_of e → (r : ℤ) → r ≡ returned_at n 0 → (r, places) ≡ check_returned table log places
  table_refused e h n q r p = refusal-returned n 0 r p (rw (← h, q) refl)

  module _ (u : Unit {0}) (passed : test_of (Ok u) ≡ test_table table) where
    -- then 2
    pub places_short : length places < 3 → (n : ℕ) → n ≡ number_of NoRoom → (r : ℤ) → r ≡ returned_at n 0 → (r, places) ≡ check_returned table log places
    places_short h n q r p = refusal-returned n 0 r p (rw (← passed, lt-leb 3 (length places) h, q))

    module _ (h : 3 ≤ length places) where
      by-check : (c : Std.Result Accepted RefusedAt) → checked_of c ≡ check_call table log → answer ≡ checked_of c
      by-check c called = rw (← passed, le-leb 3 (length places) h) (sym called)

      -- then the log is refused
      pub log_refused : (e : RefusedAt) → checked_of (Err e) ≡ check_call table log → (n : ℕ) → n ≡ number_of e.why → (r : ℤ) → r ≡ returned_at n e.step
          → (r, places) ≡ check_returned table log places
      unfolding found_of
      log_refused e called n q r p = refusal-returned n e.step r p (by-check (Err e) called ∙ ap (λ (k : ℕ). refused_at k e.step) (sym q))

      -- or accepted
      pub log-accepted : (a : Accepted) → checked_of (Ok a) ≡ check_call table log → (after : List ℕ) → after ≡ places_into a.first_end a.last_start a.steps places
          → (pos 0, after) ≡ check_returned table log places
      unfolding check_returned answer_log found_of
      log-accepted a called after p = rw (by-check (Ok a) called, p)
