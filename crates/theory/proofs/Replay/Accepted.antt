-- What the replay accepts: exactly the written logs whose parts are in shape, whose letters are in the table, and whose steps lead from the first form to the last. Assumes nothing.
use Rattle.std.specs.Prelude.{◌≡◌, refl, Bool, true, ◌&&◌, List, [], ◌∷◌, ◌++◌, ℤ, pos, negsuc, length, T, eqb}
use Rattle.std.proofs.Common.{sym, ◌∙◌, arith, eqb→eq, eq-eqb}
use Rattle.std.proofs.Math.Path.{ap}
use Rattle.std.proofs.Math.Bool.{false}
use Prim.Native.Nat.{ℕ, ◌+◌, Ordering}
use Rattle.std.proofs.Math.Dec.{compare_is_eq}
use Rattle.specification.specs.Results.{Result, Test, refused, given, ◌>>=◌, ◌>>◌, when◌then◌else◌}
use Rattle.specification.specs.Letters.{test_table, good_table}
use Rattle.specification.specs.Terms.{Term, Form, compare_terms}
use Rattle.specification.specs.Records.{write_form, test_terms}
use Rattle.specification.specs.Rules.{Step, take_step, test_step_letters}
use Rattle.specification.specs.Logs.{Log, same_coef, same_terms, same_form, Checked, refused_at, accepted, at_step, read_log, steps_letters, replay, check_call, write_log, take_steps}
use Rattle.theory.specs.Tests.{is_true, holds, and_split, given_same, tested, bound, into}
use Rattle.theory.specs.Shape.Letters.{table_good_lem}
use Rattle.theory.specs.Order.{compare_terms_eq, eq_compare_terms}
use Rattle.theory.specs.Records.Positions.{Bytes}
use Rattle.theory.proofs.Records.Logs.{last_start_of, log_of, LogInShape, LogRead, log-read_back, log_one_record}

-- ════ the same form

same_coef_eq : (a b : ℤ) → T (same_coef a b) → a ≡ b
unfolding same_coef
same_coef_eq (pos m) (pos n) h = ap pos (eqb→eq m n h)
same_coef_eq (pos m) (negsuc n) h = absurd h
same_coef_eq (negsuc m) (pos n) h = absurd h
same_coef_eq (negsuc m) (negsuc n) h = ap negsuc (eqb→eq m n h)

same_coef_same : (k : ℤ) → same_coef k k ≡ true
unfolding same_coef
same_coef_same (pos n) = eq-eqb n n refl
same_coef_same (negsuc n) = eq-eqb n n refl

like : (o : Ordering) → T (compare_is_eq o) → o ≡ Ordering.eq
like Ordering.lt h = absurd h
like Ordering.eq h = refl
like Ordering.gt h = absurd h

-- terms that the replay finds the same are equal
pub same_terms_eq : (ts us : List Term) → T (same_terms ts us) → ts ≡ us
unfolding same_terms
same_terms_eq [] [] h = refl
same_terms_eq [] (u ∷ us) h = absurd h
same_terms_eq (t ∷ ts) [] h = absurd h
same_terms_eq (t ∷ ts) (u ∷ us) h =
    let w = and_split (same_coef t.coef u.coef && compare_is_eq (compare_terms t u)) (same_terms ts us) h in
    let v = and_split (same_coef t.coef u.coef) (compare_is_eq (compare_terms t u)) w.0 in
    let m = compare_terms_eq t u (like (compare_terms t u) v.1) in
    λ i. record { coef = same_coef_eq t.coef u.coef v.0 i; factors = m.1 i; part = m.0 i } ∷ same_terms_eq ts us w.1 i

same_terms_same : (ts : List Term) → same_terms ts ts ≡ true
unfolding same_terms
same_terms_same [] = refl
same_terms_same (t ∷ ts) = simp (same_coef_same, eq_compare_terms t t refl refl, same_terms_same ts)

-- forms that the replay finds the same are equal
pub same_form_eq : (f g : Form) → T (same_form f g) → f ≡ g
unfolding same_form
same_form_eq f g h =
    let w = and_split (eqb f.kind g.kind) (same_terms f.terms g.terms) h in
    λ i. record { kind = eqb→eq f.kind g.kind w.0 i; terms = same_terms_eq f.terms g.terms w.1 i }

pub same_form_same : (f : Form) → same_form f f ≡ true
unfolding same_form
same_form_same f = simp (eq-eqb f.kind f.kind refl, same_terms_same)

-- ════ a derivation

-- the letters of steps
unfoldable pub test_steps : (table : List ℕ) (steps : List Step) → Test
test_steps table [] = given tt
test_steps table (s ∷ ss) = do
  test_step_letters table s
  test_steps table ss

-- one step more
pub steps_more : (f : Form) (ss : List Step) (s : Step) (g h : Form) → take_steps f ss ≡ given g → take_step g s ≡ given h → take_steps f (ss ++ s ∷ []) ≡ given h
unfolding take_steps
steps_more f [] s g h e q = ap (λ (f : Form). take_step f s >>= λ (k : Form). given k) (given_same e) ∙ ap (λ r. r >>= λ (k : Form). given k) q
steps_more f (t ∷ ss) s g h e q =
    let r = bound (take_step f t) (λ (k : Form). take_steps k ss) g e in
    ap (λ x. x >>= λ (k : Form). take_steps k (ss ++ s ∷ [])) r.1 ∙ steps_more r.0 ss s g h r.2 q

-- and its letters
pub tests_more : (table : List ℕ) (ss : List Step) (s : Step) → test_steps table ss ≡ given tt → test_step_letters table s ≡ given tt → test_steps table (ss ++ s ∷ []) ≡ given tt
unfolding test_steps
tests_more table [] s e q = ap (λ (r : Test). r >> given tt) q
tests_more table (t ∷ ss) s e q =
    let r = tested (test_step_letters table t) (test_steps table ss) tt e in
    ap (λ (x : Test). x >> test_steps table (ss ++ s ∷ [])) r.0 ∙ tests_more table ss s r.1 q

-- steps in shape that lead from the first form to the last, with letters of the table
pub record Derives (table : List ℕ) (first : Form) (steps : List Step) (last : Form) : Type 0 where
  pub table_good : T (good_table table)
  pub in_shape : LogInShape first steps last
  pub first_tested : test_terms table first.terms ≡ given tt
  pub steps_tested : test_steps table steps ≡ given tt
  pub last_tested : test_terms table last.terms ≡ given tt
  pub reaches : take_steps first steps ≡ given last

-- ════ a derivation is accepted

steps_letters-passed : (table : List ℕ) (k : ℕ) (steps : List Step) (rest : Checked) → test_steps table steps ≡ given tt → steps_letters table k steps rest ≡ rest
unfolding test_steps steps_letters
steps_letters-passed table k [] rest e = refl
steps_letters-passed table k (s ∷ ss) rest e =
    let w = tested (test_step_letters table s) (test_steps table ss) tt e in simp w.0 (steps_letters-passed table (k + 1) ss rest w.1)

replay-reaches : (log : Log) (k : ℕ) (current : Form) (steps : List Step) → take_steps current steps ≡ given log.last
    → replay log k current steps ≡ accepted log.first_end log.last_start (length log.steps)
unfolding take_steps replay
replay-reaches log k current [] e = let same : current ≡ log.last = given_same e in simp (same, same_form_same log.last)
replay-reaches log k current (s ∷ ss) e =
    into (take_step current s) (λ g. take_steps g ss) log.last e λ g e₁ e₂.
    simp e₁ (replay-reaches log (k + 1) g ss e₂)

-- the log of a derivation is accepted, with its positions and its steps
pub derivation-accepted : (table : List ℕ) (first : Form) (steps : List Step) (last : Form) → Derives table first steps last
    → check_call table (write_log first steps last) ≡ accepted (length (write_form first)) (last_start_of first steps) (length steps)
unfolding check_call test_table
derivation-accepted table first steps last d =
    simp (is_true (good_table table) d.table_good, log-read_back first steps last d.in_shape, d.first_tested)
    (steps_letters-passed table 1 steps _ d.steps_tested ∙ simp d.last_tested (replay-reaches (log_of first steps last) 1 first steps d.reaches))

-- ════ what is accepted is a derivation

refused≢accepted : {m k a b n : ℕ} → refused_at m k ≡ accepted a b n → ⊥
refused≢accepted e = let z : ◌≡◌ {A = ℕ} 0 1 = cc in omega arith

-- a test in front of what is accepted was passed
pub passed : {A : Type 0} (k : ℕ) (r : Result A) (rest : A → Checked) (a b n : ℕ) → at_step k r rest ≡ accepted a b n
    → (x : A) × (r ≡ given x) × (rest x ≡ accepted a b n)
passed k (refused m) rest a b n e = absurd (refused≢accepted e)
passed k (given x) rest a b n e = (x, refl, e)

-- and so were those of the letters of steps
pub steps_letters-accepted : (table : List ℕ) (k : ℕ) (steps : List Step) (rest : Checked) (a b n : ℕ) → steps_letters table k steps rest ≡ accepted a b n
    → (test_steps table steps ≡ given tt) × (rest ≡ accepted a b n)
unfolding steps_letters test_steps
steps_letters-accepted table k [] rest a b n e = (refl, e)
steps_letters-accepted table k (s ∷ ss) rest a b n e =
    let w = passed k (test_step_letters table s) (λ _. steps_letters table (k + 1) ss rest) a b n e in
    let v = steps_letters-accepted table (k + 1) ss rest a b n w.2 in
    (ap (λ t. t >> test_steps table ss) w.1 ∙ v.0, v.1)

-- what an accepted replay says
record Replayed (log : Log) (current : Form) (steps : List Step) (a b n : ℕ) : Type 0 where
  reaches : take_steps current steps ≡ given log.last
  first_end : log.first_end ≡ a
  last_start : log.last_start ≡ b
  count : length log.steps ≡ n

replay-accepted : (log : Log) (k : ℕ) (current : Form) (steps : List Step) (a b n : ℕ) → replay log k current steps ≡ accepted a b n → Replayed log current steps a b n
unfolding replay take_steps
replay-accepted log k current [] a b n e = go (same_form log.last current) refl e
  where
    go : (same : Bool) → same_form log.last current ≡ same
        → (when same then accepted log.first_end log.last_start (length log.steps) else refused_at 13 k) ≡ accepted a b n → Replayed log current [] a b n
    go true s e = record {
      reaches = unfold take_steps in ap given (sym (same_form_eq log.last current (holds (same_form log.last current) s)));
      first_end = cc;
      last_start = cc;
      count = cc;
    }
    go false s e = absurd (refused≢accepted e)
replay-accepted log k current (s ∷ ss) a b n e =
    let w = passed k (take_step current s) (λ (reached : Form). replay log (k + 1) reached ss) a b n e in
    let r = replay-accepted log (k + 1) w.0 ss a b n w.2 in
    record { reaches = ap (λ t. t >>= λ (g : Form). take_steps g ss) w.1 ∙ r.reaches; first_end = r.first_end; last_start = r.last_start; count = r.count }

-- an accepted log, its parts and its positions
pub record Accepted (table s : List ℕ) (a b n : ℕ) : Type 0 where
  pub first : Form
  pub steps : List Step
  pub last : Form
  pub is_written : s ≡ write_log first steps last
  pub derives : Derives table first steps last
  pub first_end : a ≡ length (write_form first)
  pub last_start : b ≡ last_start_of first steps
  pub count : n ≡ length steps

-- bytes that the checker accepts are the log of a derivation, with the positions and the steps that it reports
pub accepted-derives : (table s : List ℕ) (a b n : ℕ) → Bytes s → check_call table s ≡ accepted a b n → Accepted table s a b n
unfolding check_call
accepted-derives table s a b n bs e =
    let t = passed 0 (test_table table) (λ _. read) a b n e in
    let l = passed 0 (read_log s) letters a b n t.2 in
    made l.0 l.1 (table_good_lem table t.1) l.2
  where
    last_letters : Log → Checked
    last_letters log = at_step (length log.steps + 1) (test_terms table log.last.terms) λ _. replay log 1 log.first log.steps

    letters : Log → Checked
    letters log = at_step 0 (test_terms table log.first.terms) λ _. steps_letters table 1 log.steps (last_letters log)

    read : Checked
    read = at_step 0 (read_log s) letters

    made : (log : Log) → read_log s ≡ given log → T (good_table table) → letters log ≡ accepted a b n → Accepted table s a b n
    made log read good e =
        let f = passed 0 (test_terms table log.first.terms) (λ _. steps_letters table 1 log.steps (last_letters log)) a b n e in
        let m = steps_letters-accepted table 1 log.steps (last_letters log) a b n f.2 in
        let g = passed (length log.steps + 1) (test_terms table log.last.terms) (λ _. replay log 1 log.first log.steps) a b n m.1 in
        let r = replay-accepted log 1 log.first log.steps a b n g.2 in
        let o : LogRead s log = log_one_record s log bs read in
        record {
          first = log.first;
          steps = log.steps;
          last = log.last;
          is_written = o.is_written;
          derives = record { table_good = good; in_shape = o.in_shape; first_tested = f.1; steps_tested = m.0; last_tested = g.1; reaches = r.reaches };
          first_end = sym r.first_end ∙ ap (λ (l : Log). l.first_end) o.is_log;
          last_start = sym r.last_start ∙ ap (λ (l : Log). l.last_start) o.is_log;
          count = sym r.count;
        }
